-- `image_records::records_end` meets its contract. The invariant says what remains to be done. Assumes nothing.
use native.Mathlib.Omega.{arith}
use mathlib.Core.Path.{◌≡◌, ap, ap₂, sym, ◌∙◌}
use Rattle.image_records.specs.Laid.{laid}
use Rattle.image_records.specs.Records.{end_from}
use Prim.Native.Nat.{◌+◌, ◌-◌}
use Rattle.image_records.specs.laws.RecordLaws.{cut_front, cut_record, end-next, end-last}
use Rattle.image_records.proofs.records_end.Goals as goal

pub returns-then-image-at : goal.returns-then-image-at
returns-then-image-at c =
    let a = c.args in
    let l = c.loop-i in
    omega (
      arith,
      cut_front (laid a.layout) a.image.now l.at (a.n - l._i) (omega arith) (omega (arith, c.front_length.ensures.0)),
      l.invariant.1,
    )

pub returns-then-image-at-2 : goal.returns-then-image-at-2
returns-then-image-at-2 c =
    let a = c.args in
    let l = c.loop-i in
    omega (
      arith,
      cut_record (laid a.layout) a.image.now l.at (a.n - l._i) (omega arith) (omega (arith, c.record_end-at.ensures.0)),
      l.invariant.1,
    )

pub loop-i-preserved : goal.loop-i-preserved
loop-i-preserved c =
    let a = c.args in
    let s = a.image.now in
    let y = laid a.layout in
    let l = c.loop-i in
    let e : a.n - (l._i + 1) ≡ a.n - l._i - 1 = omega arith in (
      omega arith,
      ap₂ (end_from y s) c.record_end-at.ensures.0 e ∙ sym (end-next y s l.at (a.n - l._i) (omega arith))
          ∙ l.invariant.1,
    )

pub returns : goal.returns
returns c =
    let a = c.args in
    let y = laid a.layout in
    let l = c.loop-i in
    let z : a.n - l._i ≡ 0 = omega arith in (
      sym (sym l.invariant.1 ∙ ap (end_from y a.image.now l.at) z ∙ end-last y a.image.now l.at),
      omega arith,
    )
