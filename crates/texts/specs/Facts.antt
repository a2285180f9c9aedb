-- What the items of a text stand for, as the static rules want it. Assumes nothing.
use Rattle.std.specs.Prelude.{ℕ, ◌-◌, List, [], cond, length, map, nat_lt, slice_index_or}
use Rattle.names.specs.Spelling.{uppers}
use Rattle.symbols.specs.Cut.{covered, max_integer}
use Rattle.symbols.specs.See.{value_of}
use Rattle.symbols.specs.declared.Entry.{Entry}
use Rattle.statics.specs.Scopes as statics
use Rattle.texts.specs.declared.Text.{Text}

-- the part of the text that the item with the number n covers, of those given; nothing behind the last
abbrev pub spelling_of : List ℕ → List Entry → ℕ → List ℕ
spelling_of text items n = slice_index_or (map (covered text) items) n []

-- no integer of a text that was cut is larger
abbrev pub at_most_largest : ℕ → ℕ
at_most_largest v = cond (nat_lt max_integer v) 0 v

-- what the items stand for, the first with the number 0: a name's word in capitals, an integer's value, how many bytes stand between a
-- string's quotes
abbrev pub facts_of : List ℕ → List Entry → statics.Text
facts_of text items =
    record {
      word = λ n. uppers (spelling_of text items n);
      value = λ n. at_most_largest (value_of (spelling_of text items n));
      size = λ n. length (spelling_of text items n) - 2;
    }

-- the same of a text as the functions are passed it
abbrev pub spelling : Text → ℕ → List ℕ
spelling t = spelling_of t.bytes.now t.items.now

abbrev pub facts : Text → statics.Text
facts t = facts_of t.bytes.now t.items.now
