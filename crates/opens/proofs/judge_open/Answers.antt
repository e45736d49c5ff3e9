-- `opens::judge_open` meets its contract. Assumes nothing.
use native.Mathlib.Omega.{arith}
use mathlib.Core.Path.{refl, sym, ◌∙◌}
use Rattle.refusals.specs.laws.NumberLaws.{passed_on}
use Rattle.memory.specs.Layout.{mem_of}
use Rattle.tables.specs.View.{tables_in}
use Rattle.path_calls.specs.laws.Rows.{reached_front}
use Rattle.opens.specs.laws.OpenLaws.{open_goes, open_stops}
use borrow.Author.Rules.{rules}
use Rattle.opens.proofs.judge_open.Goals as goal

pub returns-in_err-k : goal.returns-in_err-k
returns-in_err-k c =
    let a = c.args in
    passed_on _ _ c.from_residual.ensures.1
    ∙ sym (open_stops (tables_in a.n a.o (mem_of a.m.now)) a.path.now _ (sym (c.in_err-k.ensures a.o)) a.rights)

pub open_own-requires : goal.open_own-requires
open_own-requires c =
    let a = c.args in
    let h = (reached_front a.m.now a.n a.o a.path.now (omega arith) (omega arith) _ _ (c.in_ok-k.ensures a.o) refl).1 in
    search rules

pub returns : goal.returns
unfolding tables_in
returns c =
    let a = c.args in
    let h = (reached_front a.m.now a.n a.o a.path.now (omega arith) (omega arith) _ _ (c.in_ok-k.ensures a.o) refl).0 in
    c.open_own.ensures ∙ sym (open_goes (tables_in a.n a.o (mem_of a.m.now)) a.path.now _ h a.rights)
