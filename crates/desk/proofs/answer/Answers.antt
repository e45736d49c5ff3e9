-- `desk::answer` meets its contract. Assumes nothing.
use Rattle.std.proofs.Common.{arith}
use Rattle.desk.specs.laws.AnsweredLaws.{entry_answers}
use Rattle.desk.proofs.answer.Goals as goal

pub returns : goal.returns
returns c =
    let a = c.args in
    entry_answers a.memory.now a.bytes.now _ _ _ _ _ _ _ a.out.now _ (omega arith) (omega arith) a.entry
    c.hand_in-o.ensures c.write_outcome.ensures
