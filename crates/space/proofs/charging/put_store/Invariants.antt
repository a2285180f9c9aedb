use Rattle.grammar.specs.Trees.{Dec, Init, Many, Value}
use Rattle.nodes.specs.Nodes.{IsDec, IsInit, IsMany, IsValue}
use Rattle.statics.specs.Written.{gather}
use Rattle.statics.specs.Space.{dec_charges}
use Rattle.texts.specs.Facts.{facts}
use Rattle.scopes.specs.Meanings.{env_means}
use Rattle.lists.specs.Lists.{left}
use Rattle.frames.specs.Frames.{Kept}
use Rattle.space.specs.Charges.{charge_means}
use Rattle.frames.proofs.Filled.{Filling}
use Rattle.space.proofs.charging.put_store.Given as goal

abbrev pub invariant-loop-declaration : goal.invariant-loop-declaration
invariant-loop-declaration l =
    Kept l.fn.start l.fn.charges l.start l.charges
    × ((ds : Many (Dec (Many (Init Value)))) → IsMany (IsDec (IsMany (IsInit IsValue))) ds l.nodes l.list → Filling charge_means (dec_charges (facts l.env.text) (env_means l.env).parts) (IsDec (IsMany (IsInit IsValue))) l.nodes (left l.declaration-iterator) (gather (dec_charges (facts l.env.text) (env_means l.env).parts) ds) l.fn.start l.fn.charges l.start l.charges)
