-- `answers::AnswerLine::put` meets its contract. Assumes nothing.
use Rattle.transcript_lines.specs.laws.SaidLaws.{put_full, put_room}
use Rattle.transcript_lines.proofs.answers.AnswerLine.put.Goals as goal

pub returns-then-self-x : goal.returns-then-self-x
returns-then-self-x c = put_full _ _ _ _ c.self.told c.self.invariant c.self.view_is c.if-self-x.true

pub returns : goal.returns
returns c = put_room _ _ _ _ c.self.told c.self.invariant c.self.view_is c.if-self-x.false _ c.put.ensures
