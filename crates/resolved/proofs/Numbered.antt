-- A component has its number among those of its record mode; and locals have different slots. Assumes nothing.
use Rattle.std.proofs.Common.{◌≡◌, ℕ, zero, suc, ◌<◌, Bool, true, false, List, [], ◌∷◌, length, take, Some, slice_get, slice_index_or, refl, arith}
use Rattle.std.proofs.lemmas.Bool.{and_parts}
use Rattle.statics.specs.Modes.{Word}
use Rattle.statics.specs.Scopes.{Env, Component, same_word, no_component, component_at, record_modes}
use Rattle.resolved.specs.ResolveExpressions.{component_called, component_number}
use Rattle.resolved.proofs.Rooms.{seek_found}

-- with those in front counted
counted_at : (cs : List Component) (r : Word) (k : ℕ) → k < length cs → same_word (slice_index_or cs k no_component).owner r ≡ true → slice_get (record_modes cs r) (length (record_modes (take k cs) r)) ≡ Some (slice_index_or cs k no_component).mode
counted_at [] r k l e = absurd (omega arith)
counted_at (c ∷ cs) r zero l e = rw (e)
counted_at (c ∷ cs) r (suc k) l e = go (same_word c.owner r) refl (counted_at cs r k (omega arith) e)
  where
    go : (b : Bool) → same_word c.owner r ≡ b → slice_get (record_modes cs r) (length (record_modes (take k cs) r)) ≡ Some (slice_index_or cs k no_component).mode → slice_get (record_modes (c ∷ cs) r) (length (record_modes (c ∷ take k cs) r)) ≡ Some (slice_index_or cs k no_component).mode
    go true q h = rw (q) h
    go false q h = rw (q) h

pub numbered : (Γ : Env) (r : Word) (n k : ℕ) → component_called Γ r n ≡ Some k → slice_get (record_modes Γ.parts r) (component_number Γ r k) ≡ Some (component_at Γ k).mode
numbered Γ r n k e =
    let f = seek_found (length Γ.parts) _ k e in
    counted_at Γ.parts r k f.0 (and_parts (same_word (component_at Γ k).owner r) (same_word (component_at Γ k).word (Γ.text.word n)) f.1).0
