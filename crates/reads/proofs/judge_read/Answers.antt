-- `reads::judge_read` meets its contract. Assumes nothing.
use native.Mathlib.Omega.{arith}
use mathlib.Core.Path.{refl}
use Rattle.memory.specs.Layout.{mem_of}
use Rattle.tables.specs.View.{tables_in}
use Rattle.handle_calls.specs.laws.HandledLaws.{judged_bad, judged_open, has-place, with_err, with_ok}
use Rattle.reads.specs.laws.JudgedLaws.{read-refused, read_handled}
use Rattle.reads.proofs.judge_read.Goals as goal

pub returns-in_err-k : goal.returns-in_err-k
unfolding tables_in
returns-in_err-k c count =
    let a = c.args in
    let (b, l) = with_err _ a.handle 1 _ c.in_err-k.ensures in
    judged_bad _ _ c.from_residual.ensures.1 b
    (λ w s. read-refused (tables_in a.n a.o (mem_of a.m.now)) a.handle _ refl count l)

pub file_place-node-requires : goal.file_place-node-requires
file_place-node-requires c =
    let a = c.args in
    let (k, has) = with_ok _ a.handle 1 _ c.in_ok-k.ensures in
    let h = has-place a.m.now a.o 1 _ (omega arith) has in
    (omega arith, omega arith, omega arith)

pub returns : goal.returns
unfolding tables_in
returns c count =
    let a = c.args in
    let (k, has) = with_ok _ a.handle 1 _ c.in_ok-k.ensures in
    judged_open _ _ (has-place a.m.now a.o 1 _ (omega arith) has)
    (λ w s. read_handled (tables_in a.n a.o (mem_of a.m.now)) a.handle _ k count _ (c.file_place-node.ensures w s) has)
