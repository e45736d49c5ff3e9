-- `answers::AnswerLine::set_bad` meets its contract. Assumes nothing.
use Rattle.transcript_lines.specs.laws.SaidLaws.{printed_front}
use Rattle.transcript_lines.proofs.answers.AnswerLine.set_bad.Goals as goal

pub returns : goal.returns
returns c = printed_front _ _ _ _ c.write_bad-self-inside.ensures
