-- What the verdict takes the items of a text to stand for is what the rules of items say. Assumes nothing.
use Rattle.std.specs.Prelude.{◌≡◌, ℕ, List, ◌∷◌, ◌++◌, length, Ok}
use Rattle.names.specs.Spelling.{uppers}
use Rattle.symbols.specs.Items.{IsInteger, IsStringOf}
use Rattle.symbols.specs.Cut.{Verdict as Cut, covered}
use Rattle.symbols.specs.declared.Entry.{Entry}
use Rattle.statics.specs.Scopes.{Text}
use Rattle.texts.specs.Facts.{facts_of}

-- by x, the item with the number i stands for what its bytes w say
pub record Stands (x : Text) (i : ℕ) (w : List ℕ) : Type 0 where
  -- the word of each item, and so of a name, is its bytes in capitals
  pub word : x.word i ≡ uppers w
  -- an integer has the one value that the rules give it
  pub value : (v : ℕ) → IsInteger w v → x.value i ≡ v
  -- a string has as many bytes as stand between its quotes
  pub size : (cs : List ℕ) → IsStringOf w cs → x.size i ≡ length cs

-- THE THEOREM. Where a text is cut into items, each of them stands for what its bytes say. The item is e here; the items `before` stand in
-- front of it, so that its number is how many they are, and the items `behind` follow it.
abbrev pub FactsRight : Type 0
FactsRight =
    (text : List ℕ) (before : List Entry) (e : Entry) (behind : List Entry)
    → Cut text (Ok (before ++ (e ∷ behind)))
    → Stands (facts_of text (before ++ (e ∷ behind))) (length before) (covered text e)
