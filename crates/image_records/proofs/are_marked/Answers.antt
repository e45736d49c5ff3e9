-- `image_records::are_marked` meets its contract. The invariant says what remains to be done. Assumes nothing.
use native.Mathlib.Omega.{arith}
use mathlib.Core.Path.{◌≡◌, ap₂, sym, ◌∙◌}
use Prim.Native.Nat.{◌+◌, ◌-◌}
use Rattle.image_records.specs.Laid.{laid}
use Rattle.image_records.specs.Records.{end_from, marked_from}
use Rattle.image_records.specs.laws.RecordLaws.{front_in, end-next, marked_next, marked_not}
use Rattle.image_records.specs.laws.RecordLaws.{marked_last}
use Rattle.image_records.specs.laws.TestLaws.{unmade, made, made_otherwise}
use Rattle.image_records.proofs.are_marked.Goals as goal

pub returns-then-layout-eq0 : goal.returns-then-layout-eq0
returns-then-layout-eq0 c =
    let y = c.args.layout in
    sym (unmade y.id_bytes y.maker_bytes c.args.image.now c.if-layout-eq0.true c.args.n 4)

pub returns-then-image-at-ne1 : goal.returns-then-image-at-ne1
returns-then-image-at-ne1 c =
    let a = c.args in
    let l = c.loop-i in
    let y = a.layout in
    let one = y.is_layout.1 in
    let t = made_otherwise y.id_bytes y.maker_bytes a.image.now l.at (omega arith) c.if-image-at-ne1.true in
    sym (sym l.invariant.1 ∙ marked_not (laid y) a.image.now l.at (a.n - l._i) (omega arith) t)

pub loop-i-preserved : goal.loop-i-preserved
loop-i-preserved c =
    let a = c.args in
    let l = c.loop-i in
    let s = a.image.now in
    let y = laid a.layout in
    let one = a.layout.is_layout.1 in
    let e : a.n - (l._i + 1) ≡ a.n - l._i - 1 = omega arith in
    let r = c.record_end-at.ensures.0 in
    let h = front_in y s l.at (a.n - l._i) (omega arith) in
    let t = made a.layout.id_bytes a.layout.maker_bytes s l.at (omega arith) (omega (arith, h, l.invariant.0))
    c.if-image-at-ne1.false in (
      ap₂ (end_from y s) r e ∙ sym (end-next y s l.at (a.n - l._i) (omega arith)) ∙ l.invariant.0,
      ap₂ (marked_from y s) r e ∙ sym (marked_next y s l.at (a.n - l._i) (omega arith) t) ∙ l.invariant.1,
    )

pub returns : goal.returns
returns c =
    let a = c.args in
    let l = c.loop-i in
    sym (sym l.invariant.1 ∙ marked_last (laid a.layout) a.image.now l.at (a.n - l._i) (omega arith))
