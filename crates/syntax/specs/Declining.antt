-- The decline that tells of a parser's fault. Assumes nothing.
use Rattle.std.specs.Prelude.{List}
use Rattle.answers.specs.declared.Place.{Place}
use Rattle.answers.specs.declared.Decline.{Decline}
use Rattle.answers.specs.declared.Decline.TheVariants.{Unexpected, TooDeep}
use Rattle.symbols.specs.declared.Entry.{Entry}
use Rattle.nodes.specs.declared.Fault.{Fault}
use Rattle.nodes.specs.declared.Fault.TheVariants.{Syntax, Deep}
use Rattle.syntax.specs.Parsing.{place_of}

abbrev pub declined : List Entry → Place → Fault → Decline
declined es end (Syntax e) = Unexpected (place_of es end e)
declined es end (Deep e) = TooDeep (place_of es end e)
