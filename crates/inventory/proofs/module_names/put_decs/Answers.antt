use Rattle.std.proofs.Common.{ℕ, List, sym, ap, subst}
use Rattle.grammar.specs.Machine.{decs}
use Rattle.nodes.specs.Nodes.{IsDec, IsMany}
use Rattle.nodes.specs.Lists.{IsDeclared}
use Rattle.statics.specs.Written.{gather}
use Rattle.statics.specs.Modules.{dec_names}
use Rattle.lists.specs.Lists.{Stand, of_many, left}
use Rattle.frames.specs.Frames.{declared_names, site_means}
use Rattle.frames.proofs.Filled.{kept_all, kept_on, gathered_plain, filling_in, filling_on, filling_out}
use Rattle.inventory.proofs.module_names.put_decs.Goals as goal

pub loop-declaration-init : goal.loop-declaration-init
loop-declaration-init c = (
  kept_all _ _,
  λ x ms s ds is. filling_in (site_means x ms) (dec_names x (declared_names s)) (IsDec (IsMany (IsDeclared s))) c.args.nodes.now (of_many ds) _ (gather (dec_names x (declared_names s)) ds) _ _
      (subst (λ (ks : List ℕ). Stand (IsDec (IsMany (IsDeclared s))) (of_many ds) c.args.nodes.now ks) (ap left (sym c.into_iter-declaration-iterator.ensures.into_iter_gives)) (c.entries-declaration-items.ensures.repeated (decs s) ds tt is))
      (gathered_plain (dec_names x (declared_names s)) ds),
)

pub loop-declaration-preserved : goal.loop-declaration-preserved
loop-declaration-preserved c = (
  kept_on _ _ _ _ _ _ c.loop-declaration.invariant.0 c.put_dec-start.ensures.kept,
  λ x ms s ds is. filling_on (site_means x ms) (dec_names x (declared_names s)) (IsDec (IsMany (IsDeclared s))) c.args.nodes.now _ _ _ _ _ _ _ _ _ _ c.in-Some.ensures.steps c.loop-declaration.invariant.0.length
      (λ d at. c.put_dec-start.ensures.put x ms s d at)
      (c.loop-declaration.invariant.1 x ms s ds is),
)

pub returns-clause-put : goal.returns-clause-put
returns-clause-put c = λ x ms s ds is. filling_out (site_means x ms) (dec_names x (declared_names s)) (IsDec (IsMany (IsDeclared s))) c.args.nodes.now _ _ _ _ _ _ c.in-None.ensures.steps.0 (c.loop-declaration.invariant.1 x ms s ds is)
