-- The parameters and locals of a procedure. Assumes nothing.
use Rattle.std.specs.Prelude.{◌≡◌, ℕ, List, [], ◌∷◌, ◌++◌, map, Some, slice_get}
use Rattle.statics.specs.declared.Refusal.TheVariants.{TooManyLocals}
use Rattle.grammar.specs.Trees.{Brick, store, procedure, Moditem, own, entry, Module}
use Rattle.statics.specs.Laws.{Wrongs, Wherever, Any}
use Rattle.statics.specs.Scopes.{Text}
use Rattle.statics.specs.Written.{gather}
use Rattle.statics.specs.Blocks.{blocks}
use Rattle.statics.specs.DeclaredTwice.{block_names}
use Rattle.statics.specs.Modules.{parameters}

-- names, and how many are allowed
pub record Allowance : Type 0 where
  pub most : ℕ
  pub names : List ℕ

abbrev pub brick_allowances : Text → Brick → List Allowance
brick_allowances x (store n ds) = []
brick_allowances x (procedure n i ps m b e) =
    let given = map (λ f. f.item) (parameters x ps) in
    record { most = 8; names = given } ∷ record { most = 64; names = given ++ blocks (block_names x) b } ∷ []

abbrev pub moditem_allowances : Text → Moditem → List Allowance
moditem_allowances x (own b) = brick_allowances x b
moditem_allowances x (entry b) = brick_allowances x b
moditem_allowances x _ = []

-- p is the first name beyond
abbrev pub Beyond : Allowance → ℕ → Type 0
Beyond a p = slice_get a.names a.most ≡ Some p

abbrev pub locals_wrongs : Text → Module → Wrongs
locals_wrongs x m = Wherever TooManyLocals (λ p. Any (λ a. Beyond a p) (gather (moditem_allowances x) m))
