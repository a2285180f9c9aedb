-- The items of the names of a module. Assumes nothing.
use Rattle.std.proofs.Common.{◌≡◌, ℕ, ◌<◌, List, map, take, get_or, ap, sym, ◌∙◌}
use Rattle.std.proofs.lemmas.List.{get_or-take, take-map}
use Rattle.std.proofs.Math.ListN.{get_or-map}
use Rattle.resolved.specs.Forms.{own}
use Rattle.resolved.specs.Grounds.{Ground, home, home_at}
use Rattle.scopes.specs.declared.Declared.{Declared}
use Rattle.resolving.specs.Meanings.{Grounds}

module _ (ds : List Declared) (n i : ℕ) (G : Ground) (grounds : Grounds ds n G) where
  item_listed : get_or (map (λ d. d.item) (take n ds)) i 0 ≡ (home_at G i).item
  item_listed = ap (λ l. get_or l i 0) (sym grounds) ∙ get_or-map (λ h. h.item) G i (home 0 (own 0))

  pub item_at : i < n → get_or (map (λ d. d.item) ds) i 0 ≡ (home_at G i).item
  item_at within = sym (get_or-take n (map (λ d. d.item) ds) i 0 within) ∙ ap (λ l. get_or l i 0) (take-map (λ d. d.item) n ds) ∙ item_listed
