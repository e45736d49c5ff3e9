-- `image_records::page_sum` meets its contract. The invariant says what remains to be done. Assumes nothing.
use native.Mathlib.Omega.{arith}
use mathlib.Core.Path.{◌≡◌, ap, ap₂, sym, ◌∙◌}
use Rattle.image_records.specs.Laid.{laid}
use Rattle.image_records.specs.Records.{nodes_from, end_from}
use Prim.Native.Nat.{ℕ, ◌+◌, ◌-◌}
use Rattle.image_records.specs.laws.RecordLaws.{end-next}
use Rattle.image_records.specs.laws.RecordLaws.{pages-next, pages-last}
use Rattle.filesystem.specs.Tables.{pages_for, page_total}
use Rattle.image_records.proofs.page_sum.Goals as goal

pub loop-i-preserved : goal.loop-i-preserved
loop-i-preserved c =
    let a = c.args in
    let s = a.image.now in
    let y = laid a.layout in
    let l = c.loop-i in
    let e : a.n - (l._i + 1) ≡ a.n - l._i - 1 = omega arith in
    let r = c.record_end-at.ensures.0 in
    let h = pages-next y s l.at (a.n - l._i) (omega arith) in
    let g = ap₂ (λ (p n : ℕ). page_total (nodes_from y s p n)) r e in
    let k = c.pages_for-total.ensures.0 ∙ ap pages_for c.record_size.ensures in (
      ap₂ (end_from y s) r e ∙ sym (end-next y s l.at (a.n - l._i) (omega arith)) ∙ l.invariant.0,
      omega (arith, h, g, k, l.invariant.1),
      omega arith,
    )

pub returns : goal.returns
returns c =
    let a = c.args in
    let l = c.loop-i in
    omega (arith, pages-last (laid a.layout) a.image.now l.at (a.n - l._i) (omega arith), l.invariant.1)
