-- The parts of a procedure among the items of a module with the room for its names. Assumes nothing.
use Rattle.std.proofs.Common.{◌≡◌, ℕ, ◌+◌, ◌≤◌, List, [], ◌∷◌, ◌++◌, map, length, Some, refl}
use Rattle.grammar.specs.Trees.{Opt, Fields, Body, Brick, store, procedure, Moditem, blank, external_procs, external_store, record_mode, own, entry}
use Rattle.nodes.specs.declared.Node.{Node}
use Rattle.nodes.specs.Nodes.{IsOpt, IsFields, IsBody}
use Rattle.statics.specs.Scopes.{Text}
use Rattle.statics.specs.Order.{InBody, InBrick}
use Rattle.statics.specs.Blocks.{blocks}
use Rattle.statics.specs.DeclaredTwice.{block_names, body_scopes, brick_scopes, moditem_scopes}
use Rattle.statics.specs.Modules.{parameters, brick_names}
use Rattle.statics.specs.Crowds.{Allowance, brick_allowances, moditem_allowances}
use Rattle.frames.specs.Rooms.{Room, Roomy}
use Rattle.frames.proofs.Counts.{parameters_fit, procedure_body_room}
use Rattle.limits.specs.declared.Procedure.{Procedure}
use Rattle.limits.specs.Procedures.{Found, FoundBrick}

-- the items of parameters
abbrev pub given : Text → Opt Fields → List ℕ
given x ps = map (λ f. f.item) (parameters x ps)

module _ (x : Text) (ns : List Node) (count n : ℕ) (p : Procedure) where
  -- Its parameters ps and its body b, its scopes and what is allowed it. A table of n has room for its names beside `count` others.
  pub record Parts (scopes : List (List ℕ)) (allowances : List Allowance) : Type 0 where
    pub ps : Opt Fields
    pub b : Body
    pub fields : IsOpt IsFields ps ns p.parameters
    pub body : IsBody b ns p.body
    pub fits : count + length (parameters x ps) ≤ n
    pub room : Room InBody b (count + length (parameters x ps)) n
    pub has : scopes ≡ body_scopes x (given x ps) b
    pub may : allowances ≡ record { most = 8; names = given x ps } ∷ record { most = 64; names = given x ps ++ blocks (block_names x) b } ∷ []

  of_brick : (b : Brick) → FoundBrick ns b (Some p) → (lo : ℕ) × (hi : ℕ) × InBrick lo b hi × (count + hi ≤ lo + n + length (brick_names x b)) → Parts (brick_scopes x b) (brick_allowances x b)
  of_brick (store k ds) f r = absurd (cc f)
  of_brick (procedure k i ps m b e) f r =
      record { ps = ps; b = b; fields = f.0; body = f.1; fits = parameters_fit x count n k i ps m b e r; room = procedure_body_room x count n k i ps m b e r; has = refl; may = refl }

  pub parts : (a : Moditem) → Found ns a (Some p) → Roomy x count n a → Parts (moditem_scopes x a) (moditem_allowances x a)
  parts (own b) f r = of_brick b f r
  parts (entry b) f r = of_brick b f r
  parts blank f r = absurd (cc f)
  parts (external_procs i ms m xs) f r = absurd (cc f)
  parts (external_store k ds) f r = absurd (cc f)
  parts (record_mode k i fs) f r = absurd (cc f)
