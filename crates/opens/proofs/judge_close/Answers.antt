-- `opens::judge_close` meets its contract. Assumes nothing.
use native.Mathlib.Omega.{arith}
use mathlib.Core.Path.{◌≡◌, refl, sym, ◌∙◌}
use lib.ListN.{length, take}
use Rattle.memory.specs.Layout.{mem_of}
use Rattle.tables.specs.View.{tables_in}
use Rattle.handle_calls.specs.laws.HandledLaws.{judged_refused, judged_open}
use Rattle.opens.specs.laws.HandleLaws.{close_refused, close_handled}
use Rattle.tables.specs.laws.FoundLaws.{found_none, found_some}
use Rattle.tables.specs.laws.RowsInUse.{count-opens}
use Rattle.opens.proofs.judge_close.Goals as goal

pub returns-in_default : goal.returns-in_default
unfolding tables_in
returns-in_default c =
    let a = c.args in
    let e : length (take a.o (mem_of a.m.now).opens) ≡ a.o = count-opens a.m.now a.o (omega arith) in
    let h = found_none _ _ (sym c.in_default.is ∙ c.find_handle.ensures) in
    judged_refused 9 (λ w s. close_refused (tables_in a.n a.o (mem_of a.m.now)) a.handle _ refl (omega arith))

pub file_place-node-requires : goal.file_place-node-requires
file_place-node-requires c =
    let (k, h) = found_some _ _ (sym c.in-Some.is ∙ c.find_handle.ensures) in
    (omega arith, omega arith, omega arith)

pub returns : goal.returns
unfolding tables_in
returns c =
    let a = c.args in
    let e : length (take a.o (mem_of a.m.now).opens) ≡ a.o = count-opens a.m.now a.o (omega arith) in
    let (k, h) = found_some _ _ (sym c.in-Some.is ∙ c.find_handle.ensures) in
    judged_open _ _ h (λ w s. close_handled (tables_in a.n a.o (mem_of a.m.now)) a.handle _
    k _ (c.file_place-node.ensures w s) (omega arith))
