-- `answers::AnswerLine::set_outcome` meets its contract. Assumes nothing.
use Rattle.transcript_lines.specs.laws.SaidLaws.{printed_front}
use Rattle.transcript_lines.proofs.answers.AnswerLine.set_outcome.Goals as goal

pub returns : goal.returns
returns c = printed_front _ _ _ _ c.write_outcome-self-inside.ensures
