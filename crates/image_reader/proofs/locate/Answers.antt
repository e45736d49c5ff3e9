-- `image_reader::locate` meets its contract. The invariant says which places are known. Assumes nothing.
use native.Mathlib.Omega.{arith}
use mathlib.Core.Path.{◌∙◌, sym}
use lib.ListN.{length-set}
use Rattle.filesystem.proofs.LayoutLaws.{maker_length}
use Rattle.image_records.specs.Laid.{laid}
use Rattle.image_records.specs.laws.RecordLaws.{end-last, record_in_place}
use Rattle.image_reader.specs.laws.PlaceLaws.{places_next, end-next}
use Rattle.image_reader.proofs.locate.Goals as goal

pub loop-i-init : goal.loop-i-init
loop-i-init c =
    let a = c.args in
    (c.requires.2, sym (end-last (laid a.layout) a.image.now 4), omega arith, λ k h. absurd (omega arith))

pub record_end-at-requires : goal.record_end-at-requires
record_end-at-requires c =
    let a = c.args in
    let l = c.loop-i in
    omega (
      arith,
      record_in_place (laid a.layout) a.image.now l.i a.n (omega arith),
      c.requires.1,
      l.invariant.1,
    )

pub loop-i-preserved : goal.loop-i-preserved
loop-i-preserved c =
    let a = c.args in
    let l = c.loop-i in
    let y = laid a.layout in
    let m = a.layout.is_layout in
    let k = maker_length a.layout.id_bytes a.layout.maker_bytes m.1 in
    let e = c.record_end-at.ensures in (
      length-set l.starts l.i l.at ∙ l.invariant.0,
      end-next y a.image.now l.i l.at l.invariant.1 e.0,
      omega (arith, k, m, e.2, l.invariant.2),
      places_next y a.image.now l.starts l.i l.at l.invariant.3 l.invariant.1 (omega (arith, l.invariant.0)),
    )
