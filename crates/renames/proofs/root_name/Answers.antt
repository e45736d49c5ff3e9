-- `renames::root_name` meets its contract. Assumes nothing.
use mathlib.Core.Path.{sym}
use Rattle.lists.specs.Pick.{pick_true, pick-false}
use borrow.Author.Tests.{eq-eqb, ne_eqb}
use Rattle.renames.specs.Judged.{root_name}
use Rattle.renames.proofs.root_name.Goals as goal

pub returns-then-k-eq0 : goal.returns-then-k-eq0
unfolding root_name
returns-then-k-eq0 c = sym (pick_true _ _ _ (eq-eqb _ 0 c.if-k-eq0.true))

pub returns : goal.returns
unfolding root_name
returns c = sym (pick-false _ _ _ (ne_eqb _ 0 c.if-k-eq0.false))
