use Rattle.grammar.specs.Trees.{Module}
use Rattle.nodes.specs.Nodes.{IsModitem, IsModule}
use Rattle.statics.specs.Written.{gather}
use Rattle.statics.specs.Space.{moditem_charges}
use Rattle.texts.specs.Facts.{facts}
use Rattle.scopes.specs.Meanings.{env_means}
use Rattle.lists.specs.Lists.{left}
use Rattle.frames.specs.Frames.{Kept}
use Rattle.space.specs.Charges.{charge_means}
use Rattle.frames.proofs.Filled.{Filling}
use Rattle.space.proofs.charging.put_module.Given as goal

abbrev pub invariant-loop-item : goal.invariant-loop-item
invariant-loop-item l =
    Kept l.fn.start l.fn.charges l.start l.charges
    × ((m : Module) → IsModule m l.nodes l.root → Filling charge_means (moditem_charges (facts l.env.text) (env_means l.env).parts) (IsModitem) l.nodes (left l.item-iterator) (gather (moditem_charges (facts l.env.text) (env_means l.env).parts) m) l.fn.start l.fn.charges l.start l.charges)
