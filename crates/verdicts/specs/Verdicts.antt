-- The verdict on a text: it is accepted, or it has the one decline. Assumes nothing.
use Rattle.std.specs.Prelude.{◌≡◌, ℕ, List, length, Ok, Err, Result}
use Rattle.answers.specs.Declines.{place}
use Rattle.answers.specs.declared.Place.{Place}
use Rattle.answers.specs.declared.Decline.{Decline}
use Rattle.answers.specs.declared.Decline.TheVariants.{Unexpected, TooDeep, DeclaredTwice, WrongName, Misfit, NoValue, TooManyPlaces, TooManyLocals}
use Rattle.symbols.specs.Cut.{Verdict as Cut}
use Rattle.symbols.specs.declared.Entry.{Entry}
use Rattle.grammar.specs.Trees.{Module}
use Rattle.grammar.specs.Sentences.{Made, Fine, Bad, Deep}
use Rattle.terminals.specs.Signs.{signs}
use Rattle.syntax.specs.Parsing.{max_depth, place_of}
use Rattle.statics.specs.declared.Refusal.{Refusal}
use Rattle.statics.specs.declared.Refusal.TheVariants as refusal
use Rattle.statics.specs.Stages.{Static}
use Rattle.texts.specs.Facts.{facts_of}

-- the decline that tells what is wrong with a module: the same, at the place of the item instead of its number
abbrev pub decline_of : List Entry → Place → Refusal → Decline
decline_of items end (refusal.DeclaredTwice i) = DeclaredTwice (place_of items end i)
decline_of items end (refusal.WrongName i) = WrongName (place_of items end i)
decline_of items end (refusal.Misfit i) = Misfit (place_of items end i)
decline_of items end (refusal.NoValue i) = NoValue (place_of items end i)
decline_of items end (refusal.TooManyPlaces i) = TooManyPlaces (place_of items end i)
decline_of items end (refusal.TooManyLocals i) = TooManyLocals (place_of items end i)

-- what is found of a module, with the places of its items
abbrev pub at_places : List Entry → Place → Result (Unit {0}) Refusal → Result (Unit {0}) Decline
at_places items end (Ok u) = Ok u
at_places items end (Err f) = Err (decline_of items end f)

-- THE VERDICT on a text. It is not cut into items, and has the decline of its cut. Or its items are no module: one of them can follow in
-- none, or the text ends too early, or one nests too deep. Or they are the module m, and have the static verdict on m.
pub data Verdict (text : List ℕ) : Result (Unit {0}) Decline → Type 0 where
  uncut : (d : Decline) → Cut text (Err d) → Verdict text (Err d)
  unexpected :
      (items : List Entry) (e : ℕ)
      → Cut text (Ok items)
      → Bad max_depth (signs items) e
      → Verdict text (Err (Unexpected (place_of items (place (length text)) e)))
  too_deep :
      (items : List Entry) (e : ℕ)
      → Cut text (Ok items)
      → Deep max_depth (signs items) e
      → Verdict text (Err (TooDeep (place_of items (place (length text)) e)))
  judged :
      (items : List Entry) (m : Module) (r : Result (Unit {0}) Refusal)
      → Cut text (Ok items)
      → Fine max_depth (signs items)
      → Made m (signs items)
      → Static (facts_of text items) m r
      → Verdict text (at_places items (place (length text)) r)

-- THE THEOREM. Every text has exactly one verdict.
abbrev pub OneVerdict : Type 0
OneVerdict =
    (text : List ℕ) → (r : Result (Unit {0}) Decline) × Verdict text r × ((s : Result (Unit {0}) Decline) → Verdict text s → s ≡ r)
