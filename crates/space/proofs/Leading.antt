-- What is to be put in front of others, part by part from the last to the first. Assumes nothing.
use Rattle.std.proofs.Common.{◌≡◌, ℕ, ◌+◌, ◌≤◌, List, [], ◌++◌, map, length, drop, refl, ap, sym, ◌∙◌, append_assoc, append-nil, arith, length-append}
use Rattle.frames.specs.Frames.{Ahead}

-- Of all of what is to be put in front of what began at `before` in the old table, the part `front` is left.
abbrev pub Leading : {T U : Type 0} → (T → U) → List U → List U → ℕ → List T → ℕ → List T → Type 0
Leading {U = U} f all front before old start new =
    length all ≤ before → before ≤ length old → (vs : List U) × (all ≡ front ++ vs) × (start + length vs ≡ before) × (map f (drop start new) ≡ vs ++ map f (drop before old))

module _ {T U : Type 0} (f : T → U) (all : List U) (before : ℕ) (old : List T) where
  pub lead_in : Leading f all all before old before old
  lead_in room within = ([], sym (append-nil all), omega arith, refl)

  -- the last part of what is left is put in front
  pub lead_more : (front rest last : List U) (start : ℕ) (mid : List T) (begin : ℕ) (new : List T) → front ≡ rest ++ last → length mid ≡ length old → Leading f all front before old start mid → Ahead f last start mid begin new → Leading f all rest before old begin new
  lead_more front rest last start mid begin new e len led step room within =
      let x = led room within in
      let whole : length all ≡ length front + length x.0 = ap length x.1 ∙ length-append front x.0 in
      let parts : length front ≡ length rest + length last = ap length e ∙ length-append rest last in
      let sum : length (last ++ x.0) ≡ length last + length x.0 = length-append last x.0 in
      let y = step (omega (arith, whole, parts, x.2)) (omega (arith, len, x.2)) in
      (last ++ x.0, x.1 ∙ ap (λ ws. ws ++ x.0) e ∙ append_assoc rest last x.0, omega (arith, sum, y.0, x.2), y.1 ∙ ap (λ ws. last ++ ws) x.3 ∙ sym (append_assoc last x.0 (map f (drop before old))))

  -- nothing is left
  pub lead_out : (front : List U) (start : ℕ) (new : List T) → front ≡ [] → Leading f all front before old start new → Ahead f all before old start new
  lead_out front start new e led room within =
      let x = led room within in
      let whole : all ≡ x.0 = x.1 ∙ ap (λ ws. ws ++ x.0) e in
      (omega (arith, ap length whole, x.2), x.3 ∙ ap (λ ws. ws ++ map f (drop before old)) (sym whole))
