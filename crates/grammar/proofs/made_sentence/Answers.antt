use Rattle.grammar.proofs.Right.{made_sentence_lem}
use Rattle.grammar.proofs.made_sentence.Goals as goal

pub returns : goal.returns
returns c = made_sentence_lem
