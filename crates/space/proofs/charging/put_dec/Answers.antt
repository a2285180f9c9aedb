use Rattle.texts.specs.Facts.{facts}
use Rattle.scopes.specs.Meanings.{env_means}
use Rattle.space.proofs.Declaring.{Declares, of_variables, of_arrays, of_structures, put_declared}
use Rattle.space.proofs.charging.put_dec.Goals as goal
use Rattle.space.proofs.charging.put_dec.Goals.{in-Variables, in-Arrays, in-Structures}

pub returns-clause-put : goal.returns-clause-put
returns-clause-put c =
    let declares : Declares (facts c.args.env.text) (env_means c.args.env).parts c.args.nodes.now c.args.k c.match-node_at.want.0 c.match-node_at.want.1 =
    elim c.match-node_at.branch [
      | in-Variables w ↦ rw w.want-is (of_variables (facts c.args.env.text) (env_means c.args.env).parts c.args.nodes.now c.args.k c.node_at.result w.in-Variables.mode w.in-Variables.list w.mode_at.result c.node_at.ensures w.in-Variables.is)
      | in-Arrays w ↦ rw w.want-is (of_arrays (facts c.args.env.text) (env_means c.args.env).parts c.args.nodes.now c.args.k c.node_at.result w.in-Arrays.field-0 w.in-Arrays.length w.in-Arrays.mode w.in-Arrays.list w.value.result w.element_at.result c.node_at.ensures w.in-Arrays.is w.value.ensures (λ t is. w.element_at.ensures t is (facts c.args.env.text)))
      | in-Structures w ↦ rw w.want-is (of_structures (facts c.args.env.text) (env_means c.args.env).parts c.args.nodes.now c.args.k c.node_at.result w.in-Structures.name w.in-Structures.list c.node_at.ensures w.in-Structures.is)
    ] in
    put_declared (facts c.args.env.text) (env_means c.args.env).parts c.args.nodes.now c.args.k c.match-node_at.want.0 c.match-node_at.want.1 c.scalars.result c.args.start c.args.charges.now c.put_items.result c.put_items.new.charges declares c.scalars.ensures c.put_items.ensures.put
