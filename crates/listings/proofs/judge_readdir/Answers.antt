-- `listings::judge_readdir` meets its contract. Assumes nothing.
use native.Mathlib.Omega.{arith}
use mathlib.Core.Path.{refl, sym, ◌∙◌}
use Rattle.refusals.specs.laws.NumberLaws.{passed_on}
use Rattle.memory.specs.Layout.{mem_of}
use Rattle.tables.specs.View.{tables_in}
use Rattle.path_calls.specs.laws.Rows.{reached_front}
use Rattle.listings.specs.laws.ReaddirLaws.{readdir_goes, readdir-stops}
use borrow.Author.Rules.{rules}
use Rattle.listings.proofs.judge_readdir.Goals as goal

pub returns-in_err-k : goal.returns-in_err-k
returns-in_err-k c o =
    let a = c.args in
    passed_on _ _ c.from_residual.ensures.1
    ∙ sym (readdir-stops (tables_in a.n o (mem_of a.m.now)) a.path.now _ (sym (c.in_err-k.ensures o)))

pub readdir_own-requires : goal.readdir_own-requires
readdir_own-requires c =
    let a = c.args in
    let h = (reached_front a.m.now a.n 0 a.path.now (omega arith) (omega arith) _ _ (c.in_ok-k.ensures 0) refl).1 in
    search rules

pub returns : goal.returns
unfolding tables_in
returns c o =
    let a = c.args in
    let h = (reached_front a.m.now a.n o a.path.now (omega arith) (omega arith) _ _ (c.in_ok-k.ensures o) refl).0 in
    c.readdir_own.ensures ∙ sym (readdir_goes (tables_in a.n o (mem_of a.m.now)) a.path.now _ h)
