-- What the functions of the cutter answer, in the words of the rules. Assumes nothing.
use Rattle.std.specs.Prelude.{◌≡◌, ℕ, ◌+◌, ◌<◌, ◌≤◌, List, [], ◌∷◌, ◌++◌, length, drop, Some, None, Ok, Err, Option, Result}
use Rattle.answers.specs.Declines.{place}
use Rattle.answers.specs.declared.Decline.{Decline}
use Rattle.answers.specs.declared.Decline.TheVariants.{BadByte, UnfinishedItem, TooManyItems}
use Rattle.symbols.specs.Cut.{Cut, entry, max_items}
use Rattle.symbols.specs.Laws.{Answer}
use Rattle.symbols.specs.declared.Symbol.{Symbol}
use Rattle.symbols.specs.declared.Entry.{Entry}
use Rattle.scanner.specs.declared.item.Stop.{Stop}
use Rattle.scanner.specs.declared.item.Stop.TheVariants.{Short, Stuck}
use Rattle.lexer.specs.declared.steps.Passed.{Passed}

-- from `at` to `end` the text t holds layout or a comment, or one item: whatever is cut from `end` on is cut from `at` on, behind it
abbrev pub Joins : List ℕ → ℕ → Option Symbol → ℕ → Type 0
Joins t at None end =
    (es : List Entry) (o : Option Decline) → Cut end (drop end t) es o → Cut at (drop at t) es o
Joins t at (Some s) end =
    (es : List Entry) (o : Option Decline) → Cut end (drop end t) es o → Cut at (drop at t) (entry s at end ∷ es) o

abbrev pub Stepped : List ℕ → ℕ → Result Passed Decline → Type 0
Stepped t at (Ok p) = (at < p.end) × (p.end ≤ length t) × Joins t at p.symbol p.end
Stepped t at (Err d) = Cut at (drop at t) [] (Some d)

-- where no item stands at `at`: how far the text was read there, and the decline
abbrev pub reach : Stop → ℕ
reach Short = 0
reach (Stuck n) = n

abbrev pub decline_of : Stop → ℕ → Decline
decline_of Short at = UnfinishedItem (place at)
decline_of (Stuck n) at = BadByte (place (at + n))

-- the items es are those in the table, or there are more, and the first of these is declined
abbrev pub Over : Result (Unit {0}) Decline → List Entry → List Entry → Type 0
Over (Ok x) front es = es ≡ front
Over (Err d) front es =
    (length front ≡ max_items) × ((e : Entry) × (more : List Entry) × (es ≡ front ++ (e ∷ more)) × (d ≡ TooManyItems e.start))

-- the answer on t: the items xs in the table are its items, or t is declined
abbrev pub Answered : List ℕ → List Entry → Result (Unit {0}) Decline → Type 0
Answered t xs (Ok x) = Answer t (Ok xs)
Answered t xs (Err d) = Answer t (Err d)
