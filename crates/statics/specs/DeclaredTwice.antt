-- A name declared twice in one scope. Assumes nothing.
use Rattle.std.specs.Prelude.{◌≡◌, ℕ, ◌⊎◌, List, [], ◌∷◌, ◌++◌, map}
use Rattle.statics.specs.declared.Refusal.TheVariants.{DeclaredTwice}
use Rattle.grammar.specs.Trees.{Locals, Body, body, Brick, store, procedure, Moditem, blank, external_procs, external_store, own, entry, Module}
use Rattle.grammar.specs.Trees as tree
use Rattle.statics.specs.Laws.{Wrongs, Wherever, Any}
use Rattle.statics.specs.Scopes.{Text}
use Rattle.statics.specs.Written.{gather, items}
use Rattle.statics.specs.Blocks.{inner_blocks}
use Rattle.statics.specs.Statements.{entries}
use Rattle.statics.specs.Modules.{fields, parameters, moditem_names}

-- the names of a block's locals
abbrev pub block_names : Text → Locals → List ℕ
block_names x ls = items (entries x ls)

-- The scopes of a body, with the names ps beside the locals of its outermost block: each with its names, in their order.
abbrev pub body_scopes : Text → List ℕ → Body → List (List ℕ)
body_scopes x ps (body ls s) = (ps ++ block_names x ls) ∷ inner_blocks (λ ks. block_names x ks ∷ []) s

abbrev pub brick_scopes : Text → Brick → List (List ℕ)
brick_scopes x (store n ds) = []
brick_scopes x (procedure n i ps m b e) = body_scopes x (map (λ f. f.item) (parameters x ps)) b

abbrev pub moditem_scopes : Text → Moditem → List (List ℕ)
moditem_scopes x (tree.record_mode n i fs) = map (λ f. f.item) (fields x fs) ∷ []
moditem_scopes x (own b) = brick_scopes x b
moditem_scopes x (entry b) = brick_scopes x b
moditem_scopes x _ = []

abbrev pub scopes : Text → Module → List (List ℕ)
scopes x m = items (gather (moditem_names x) m) ∷ gather (moditem_scopes x) m

-- the name p stands behind one of the same word
abbrev pub Twice : Text → List ℕ → ℕ → Type 0
Twice x [] p = ⊥
Twice x (n ∷ ns) p = Any (λ q. (p ≡ q) × (x.word q ≡ x.word n)) ns ⊎ Twice x ns p

abbrev pub twice_wrongs : Text → Module → Wrongs
twice_wrongs x m = Wherever DeclaredTwice (λ p. Any (λ s. Twice x s p) (scopes x m))
