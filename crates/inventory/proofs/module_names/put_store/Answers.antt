use Rattle.std.proofs.Common.{[], ◌∷◌, refl}
use Rattle.statics.specs.Scopes.{brick}
use Rattle.statics.specs.Written.{gather, site}
use Rattle.statics.specs.Modules.{dec_names}
use Rattle.frames.specs.Frames.{declared_names, site_means}
use Rattle.frames.proofs.Filled.{kept_on, ahead_one}
use Rattle.inventory.proofs.Pairs.{ahead_on}
use Rattle.inventory.proofs.module_names.put_store.Goals as goal

pub returns-clause-kept : goal.returns-clause-kept
returns-clause-kept c = kept_on _ _ _ _ _ _ c.put_decs-start.ensures.kept c.put.ensures.kept

pub returns-clause-put : goal.returns-clause-put
returns-clause-put c = λ x ms s ds is. ahead_on (site_means x ms) (gather (dec_names x (declared_names s)) ds) (site brick c.args.name ∷ []) _ _ _ _ _ _ c.put_decs-start.ensures.kept.length
    (c.put_decs-start.ensures.put x ms s ds is)
    (ahead_one (site_means x ms) _ (site brick c.args.name ∷ []) _ _ _ _ refl c.put.ensures.put)
