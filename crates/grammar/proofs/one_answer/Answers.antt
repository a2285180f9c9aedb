use Rattle.grammar.proofs.Answers.{one_answer}
use Rattle.grammar.proofs.one_answer.Goals as goal

pub returns : goal.returns
returns c = one_answer
