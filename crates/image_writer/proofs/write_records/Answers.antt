-- `image_writer::write_records` meets its contract. The invariant says what remains to be done. Assumes nothing.
use native.Mathlib.Omega.{arith}
use Prim.Native.Nat.{◌≤◌, ◌<◌}
use mathlib.Core.Path.{◌∙◌}
use Rattle.filesystem.specs.Tables.{NODES}
use Rattle.image_records.specs.Laid.{laid}
use Rattle.image_writer.specs.laws.Written.{records_in, records_end_lem, record_next, records_done}
use Rattle.image_writer.proofs.write_records.Goals as goal

pub write_record-next-requires : goal.write_record-next-requires
write_record-next-requires c =
    let a = c.args in
    let l = c.loop-i in
    let y = laid a.layout in
    let p = records_in a.m.now a.n (omega arith) y l.i (omega arith) in
    (omega arith, omega arith, omega (arith, p, l.invariant.2, l.invariant.0))

pub loop-i-preserved : goal.loop-i-preserved
loop-i-preserved c =
    let a = c.args in
    let l = c.loop-i in
    let r = c.write_record-next in
    let y = laid a.layout in
    let h : a.n ≤ NODES = omega arith in
    let i : l.i < a.n = omega arith in
    let p = records_in a.m.now a.n h y l.i i in (
      omega arith,
      record_next a.m.now a.n h y l.i i l.out l.next (omega (arith, p, l.invariant.2, l.invariant.0))
          r.ensures.out_after r.ensures.value
          ∙ l.invariant.1,
      omega (arith, p, l.invariant.2, r.ensures.value),
    )

pub returns : goal.returns
returns c =
    let a = c.args in
    let l = c.loop-i in
    let y = laid a.layout in
    let h : a.n ≤ NODES = omega arith in
    let p = records_end_lem a.m.now a.n h y l.i (omega arith) in record {
      out_after = records_done a.m.now a.n h y l.i (omega arith) l.out l.next
          ∙ l.invariant.1;
      value = omega (arith, p, l.invariant.2);
    }
