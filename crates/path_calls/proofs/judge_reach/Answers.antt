-- `path_calls::judge_reach` meets its contract. Assumes nothing.
use mathlib.Core.Path.{sym, ◌∙◌}
use Rattle.refusals.specs.laws.NumberLaws.{passed_on}
use Rattle.memory.specs.Layout.{mem_of}
use Rattle.tables.specs.View.{tables_in}
use Rattle.path_calls.specs.laws.ReachedLaws.{stat_fault, stat_good}
use Rattle.path_calls.proofs.judge_reach.Goals as goal

pub returns-in_err-form : goal.returns-in_err-form
returns-in_err-form c o =
    let a = c.args in
    passed_on _ _ c.from_residual.ensures.1
    ∙ sym (stat_fault (tables_in a.n o (mem_of a.m.now)) a.path.now _ (sym c.in_err-form.ensures))

pub returns : goal.returns
unfolding tables_in
returns c o =
    let a = c.args in
    c.walk.ensures ∙ sym (stat_good (tables_in a.n o (mem_of a.m.now)) a.path.now (sym c.in_ok-form.ensures))
