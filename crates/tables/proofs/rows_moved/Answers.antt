-- `tables::rows_moved` meets its contract. Assumes nothing.
use native.Mathlib.Omega.{arith}
use Prim.Native.Nat.{ℕ, ◌-◌}
use mathlib.Core.Path.{◌≡◌, sym, ap, ◌∙◌}
use lib.ListN.{length}
use borrow.Author.Tests.{eq-eqb, ne_eqb}
use Rattle.lists.specs.Pick.{pick_true, pick-false}
use Rattle.memory.specs.Layout.{mem_of}
use Rattle.memory.specs.laws.MemLaws.{length-nodes}
use Rattle.tables.specs.laws.ContentLaws.{total-part, total-next}
use Rattle.tables.proofs.rows_moved.Goals as goal

pub returns-then-old-new : goal.returns-then-old-new
returns-then-old-new c = (sym (pick_true _ _ _ (eq-eqb _ _ c.if-old-new.true)), omega arith)

pub overflow_sub-result : goal.overflow_sub-result
overflow_sub-result c =
    let a = c.args in
    let ns = (mem_of a.m.now).nodes in
    let l : length ns ≡ 256 = length-nodes a.m.now in
    omega (
      arith,
      c.pages_on.ensures.0,
      total-part ns a.n a.k (omega arith) (omega arith),
      total-next ns a.k
          (omega arith),
    )

pub returns : goal.returns
returns c =
    let a = c.args in (
      ap (λ (x : ℕ). x - a.end) c.pages_on.ensures.0 ∙ sym (pick-false _ _ _ (ne_eqb _ _ c.if-old-new.false)),
      omega (arith, c.pages_on.ensures.1),
    )
