-- Where the names of a module come from, and which form a name is. Assumes nothing.
use Rattle.std.specs.Prelude.{ℕ, ◌-◌, List, map, length, slice_index_or}
use Rattle.grammar.specs.Trees.{Opt, Moditem, external_procs, Module}
use Rattle.grammar.specs.Trees as tree
use Rattle.statics.specs.Scopes.{Text, Class, stored}
use Rattle.statics.specs.Written.{gather}
use Rattle.statics.specs.Modules.{names_of, moditem_names}
use Rattle.resolved.specs.Forms.{Callee, own, inbyte, outbyte, Form}
use Rattle.resolved.specs.Forms as form

-- a name of the module: the item that declares it, and what a call of it calls
pub record Home : Type 0 where
  pub item : ℕ
  pub callee : Callee

-- The names of the module, as many and in the same order as the environment has them. The names behind them are locals.
abbrev pub Ground : Type 0
Ground = List Home

abbrev pub home : ℕ → Callee → Home
home n c = record { item = n; callee = c }

-- of the two procedures from outside INBYTE has a result
abbrev pub outside : Opt tree.Mode → Callee
outside tree.none = outbyte
outside (tree.some m) = inbyte

abbrev pub moditem_homes : Text → Moditem → List Home
moditem_homes x (external_procs i ms m ns) = map (λ n. home n (outside m)) (names_of ns)
moditem_homes x it = map (λ s. home s.item (own s.item)) (moditem_names x it)

abbrev pub ground : Text → Module → Ground
ground x m = gather (moditem_homes x) m

abbrev pub home_at : Ground → ℕ → Home
home_at G i = slice_index_or G i (home 0 (own 0))

-- a local's slot: parameters and locals count from 0, those of inner blocks further on
abbrev pub slot : Ground → ℕ → ℕ
slot G i = i - length G

-- the variable that is the i-th name, of this class
abbrev pub variable_form : Ground → ℕ → Class → Form
variable_form G i (stored t) = form.stored (home_at G i).item
variable_form G i _ = form.local (slot G i)
