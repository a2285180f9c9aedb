-- What stands before a place: past the text's end it is the whole text.
use Rattle.std.proofs.Common.{◌≡◌, ℕ, min, List, length, take, ap, ◌∙◌, arith}
use Rattle.std.proofs.lemmas.List.{take_min as take_less}

pub take_min : {X : Type 0} (xs : List X) (n m : ℕ) → m ≡ min (length xs) n → take m xs ≡ take n xs
take_min xs n m e = ap (λ k. take k xs) (omega arith) ∙ take_less n xs
