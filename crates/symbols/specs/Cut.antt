-- How a text is cut into items from the left, each as long as possible, and when it is declined. Assumes nothing.
use Rattle.std.specs.Prelude.{◌≡◌, ℕ, ◌+◌, ◌-◌, ◌<◌, ◌≤◌, true, false, List, [], ◌∷◌, ◌++◌, length, take, drop, Some, None, Ok, Err, Option, Result}
use Rattle.answers.specs.Declines.{place}
use Rattle.answers.specs.declared.Decline.{Decline}
use Rattle.answers.specs.declared.Decline.TheVariants.{TextTooLong, BadByte, UnfinishedItem, IntegerTooLarge, TooManyItems}
use Rattle.symbols.specs.Bytes.{blank}
use Rattle.symbols.specs.Items.{IsInteger, IsItem, Item, Begins}
use Rattle.symbols.specs.declared.Symbol.{Symbol}
use Rattle.symbols.specs.declared.Symbol.TheVariants.{Integer}
use Rattle.symbols.specs.declared.Entry.{Entry}

-- of w followed by r, the front part w is an item of f, and no longer front part is an item
pub record Longest (f : Option Symbol) (w r : List ℕ) : Type 0 where
  pub item : IsItem f w
  pub longest : (v s : List ℕ) → w ++ r ≡ v ++ s → Item v → length v ≤ length w

-- no front part of t is an item
abbrev pub NoItem : List ℕ → Type 0
NoItem t = (v s : List ℕ) → t ≡ v ++ s → Item v → ⊥

abbrev pub max_integer : ℕ
max_integer = 32767

abbrev pub max_bytes : ℕ
max_bytes = 32768

abbrev pub max_items : ℕ
max_items = 4096

abbrev pub entry : Symbol → ℕ → ℕ → Entry
entry s p q = record { symbol = s; start = place p; end = place q }

-- the part of the text that an item in the table covers
abbrev pub covered : List ℕ → Entry → List ℕ
covered text e = take (e.end.offset - e.start.offset) (drop e.start.offset text)

-- Cut p t es o: the text t, whose first byte has the place p, is cut into the items es, and no more, or into es up to the decline o.
pub data Cut : ℕ → List ℕ → List Entry → Option Decline → Type 0 where
  ended : (p : ℕ) → Cut p [] [] None
  layout :
      (p b : ℕ) (t : List ℕ) (es : List Entry) (o : Option Decline)
      → blank b ≡ true
      → Cut (p + 1) t es o
      → Cut p (b ∷ t) es o
  comment :
      (p : ℕ) (w r : List ℕ) (es : List Entry) (o : Option Decline)
      → Longest None w r
      → Cut (p + length w) r es o
      → Cut p (w ++ r) es o
  item :
      (p : ℕ) (s : Symbol) (w r : List ℕ) (es : List Entry) (o : Option Decline)
      → Longest (Some s) w r
      → ((v : ℕ) → IsInteger w v → v ≤ max_integer)
      → Cut (p + length w) r es o
      → Cut p (w ++ r) (entry s p (p + length w) ∷ es) o
  large :
      (p : ℕ) (w r : List ℕ) (v : ℕ)
      → Longest (Some Integer) w r
      → IsInteger w v
      → max_integer < v
      → Cut p (w ++ r) [] (Some (IntegerTooLarge (place p)))
  -- the longest part that begins some item reaches the text's end
  unfinished :
      (p b : ℕ) (t : List ℕ)
      → NoItem (b ∷ t)
      → Begins (b ∷ t)
      → Cut p (b ∷ t) [] (Some (UnfinishedItem (place p)))
  -- the longest part that begins some item is u, and the byte c is behind it
  foreign :
      (p : ℕ) (u : List ℕ) (c : ℕ) (r : List ℕ)
      → NoItem (u ++ (c ∷ r))
      → (u ≡ [] → blank c ≡ false)
      → Begins u
      → (Begins (u ++ (c ∷ [])) → ⊥)
      → Cut p (u ++ (c ∷ r)) [] (Some (BadByte (place (p + length u))))

-- what a text is answered by: its items, or the first decline
pub data Verdict (text : List ℕ) : Result (List Entry) Decline → Type 0 where
  too_long : max_bytes < length text → Verdict text (Err TextTooLong)
  declined :
      (es : List Entry) (d : Decline) → length text ≤ max_bytes → Cut 0 text es (Some d) → Verdict text (Err d)
  too_many :
      (es : List Entry) (e : Entry) (more : List Entry)
      → length text ≤ max_bytes
      → Cut 0 text (es ++ (e ∷ more)) None
      → length es ≡ max_items
      → Verdict text (Err (TooManyItems e.start))
  whole :
      (es : List Entry)
      → length text ≤ max_bytes
      → Cut 0 text es None
      → length es ≤ max_items
      → Verdict text (Ok es)
