-- `desk::answer_line` meets its contract. Assumes nothing.
use Rattle.desk.specs.laws.AnsweredLaws.{bad_answers, line_read, bad_line_lem}
use Rattle.desk.proofs.answer_line.Goals as goal

pub returns-in-Some : goal.returns-in-Some
returns-in-Some c =
    let a = c.args in
    line_read a.memory.now _ c.read_line.result _ c.read_line.ensures.line _ _ a.out.now _ c.in-Some.l _
    c.in-Some.is c.first.ensures.0 c.answer.ensures

pub returns-in-None : goal.returns-in-None
returns-in-None c =
    let a = c.args in
    bad_line_lem a.memory.now _ c.read_line.result _ c.read_line.ensures.line _ _ a.out.now _
    c.in-None.is (bad_answers a.memory.now _ a.out.now _ c.write_bad.ensures)
