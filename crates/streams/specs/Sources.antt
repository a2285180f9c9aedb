use Rattle.std.specs.Prelude.{◌≡◌, ℕ, List, [], ◌∷◌, Some, None, Option}

-- What one `get` does to the bytes that wait: it takes the first, or nothing changes where none waits.
abbrev pub Got : Option ℕ → List ℕ → List ℕ → Type 0
Got None before after = (before ≡ []) × (after ≡ [])
Got (Some b) before after = before ≡ b ∷ after
