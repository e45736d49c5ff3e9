-- `creations::judge_new` meets its contract. Assumes nothing.
use mathlib.Core.Path.{sym, ◌∙◌}
use Rattle.refusals.specs.laws.NumberLaws.{passed_on}
use Rattle.memory.specs.Layout.{mem_of}
use Rattle.tables.specs.View.{tables_in}
use Rattle.creations.specs.laws.NameLaws.{new_fault, new_good}
use Rattle.creations.proofs.judge_new.Goals as goal

pub returns-in_err-form : goal.returns-in_err-form
returns-in_err-form c o mode =
    let a = c.args in
    passed_on _ _ c.from_residual.ensures.1
    ∙ sym (new_fault (tables_in a.n o (mem_of a.m.now)) a.path.now mode _ (sym c.in_err-form.ensures))

pub returns : goal.returns
unfolding tables_in
returns c o mode =
    let a = c.args in
    c.new_own.ensures ∙ sym (new_good (tables_in a.n o (mem_of a.m.now)) a.path.now mode (sym c.in_ok-form.ensures))
