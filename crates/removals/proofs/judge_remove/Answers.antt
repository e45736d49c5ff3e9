-- `removals::judge_remove` meets its contract. Assumes nothing.
use native.Mathlib.Omega.{arith}
use mathlib.Core.Path.{refl, sym, ◌∙◌}
use Rattle.refusals.specs.laws.NumberLaws.{passed_on}
use Rattle.memory.specs.Layout.{mem_of}
use Rattle.tables.specs.View.{tables_in}
use Rattle.path_calls.specs.laws.ReachedLaws.{way_stops}
use Rattle.path_calls.specs.laws.Rows.{way_front}
use Rattle.removals.specs.laws.RemoveLaws.{remove_goes, remove-stops}
use borrow.Author.Rules.{rules}
use Rattle.removals.proofs.judge_remove.Goals as goal

pub returns-in_err-way : goal.returns-in_err-way
returns-in_err-way c =
    let a = c.args in
    let t = tables_in a.n a.o (mem_of a.m.now) in
    passed_on _ _ c.from_residual.ensures.1
    ∙ sym (remove-stops t a.path.now _ (way_stops t a.path.now _ (sym (c.in_err-way.ensures a.o))))

pub remove_own-requires : goal.remove_own-requires
remove_own-requires c =
    let a = c.args in
    let h = way_front a.m.now a.n a.o a.path.now (omega arith) (omega arith) _ _ _ (c.in_ok-way.ensures a.o) refl in
    let k = h.2 in
    let d = h.3 in
    search rules

pub returns : goal.returns
unfolding tables_in
returns c =
    let a = c.args in
    let h = way_front a.m.now a.n a.o a.path.now (omega arith) (omega arith) _ _ _ (c.in_ok-way.ensures a.o) refl in
    c.remove_own.ensures ∙ sym (remove_goes (tables_in a.n a.o (mem_of a.m.now)) a.path.now _ h.0 _ h.1)
