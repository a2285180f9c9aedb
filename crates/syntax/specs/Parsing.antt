-- What a text is answered by up to its syntax: a module's tree, or the one decline. Assumes nothing.
use Rattle.std.specs.Prelude.{◌≡◌, ℕ, List, map, length, Ok, Err, Result, slice_index_or}
use Rattle.answers.specs.Declines.{place}
use Rattle.answers.specs.declared.Place.{Place}
use Rattle.answers.specs.declared.Decline.{Decline}
use Rattle.answers.specs.declared.Decline.TheVariants.{Unexpected, TooDeep}
use Rattle.symbols.specs.Cut.{Verdict}
use Rattle.symbols.specs.declared.Entry.{Entry}
use Rattle.grammar.specs.Trees.{Module}
use Rattle.grammar.specs.Sentences.{Made, Fine, Bad, Deep}
use Rattle.nodes.specs.Nodes.{IsModule}
use Rattle.nodes.specs.declared.Node.{Node}
use Rattle.terminals.specs.Signs.{signs}

-- how deep a module may nest
abbrev pub max_depth : ℕ
max_depth = 32

-- the place of the item with the number e; behind the last one, the end of the text
abbrev pub place_of : List Entry → Place → ℕ → Place
place_of es end e = slice_index_or (map (λ x. x.start) es) e end

-- The items es of a text that ends at `end` are answered by the node that stands for the one tree that is made of them; or the item with
-- the number e is the first that can follow in no module, or e is the text's end; or it is the first that nests too deep.
pub data Parses (es : List Entry) (end : Place) (ns : List Node) : Result ℕ Decline → Type 0 where
  module_read :
      (k : ℕ) (m : Module)
      → Fine max_depth (signs es)
      → Made m (signs es)
      → ((n : Module) → Made n (signs es) → m ≡ n)
      → IsModule m ns k
      → Parses es end ns (Ok k)
  unexpected : (e : ℕ) → Bad max_depth (signs es) e → Parses es end ns (Err (Unexpected (place_of es end e)))
  too_deep : (e : ℕ) → Deep max_depth (signs es) e → Parses es end ns (Err (TooDeep (place_of es end e)))

-- What a text is answered by: the decline of its cut, or what its items are answered by. Its items are those in the table, xs.
pub data Reads (text : List ℕ) (xs : List Entry) (ns : List Node) : Result ℕ Decline → Type 0 where
  uncut : (d : Decline) → Verdict text (Err d) → Reads text xs ns (Err d)
  cut : (r : Result ℕ Decline) → Verdict text (Ok xs) → Parses xs (place (length text)) ns r → Reads text xs ns r
