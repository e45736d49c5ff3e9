-- `image_writer::records_length` meets its contract. The invariant says what remains to be done. Assumes nothing.
use native.Mathlib.Omega.{arith}
use mathlib.Core.Path.{ap}
use lib.ListN.{length}
use Rattle.image_records.specs.Laid.{laid}
use Rattle.image_writer.specs.laws.Written.{records_in, records_end_lem}
use Rattle.image_writer.proofs.records_length.Goals as goal

pub loop-i-preserved : goal.loop-i-preserved
loop-i-preserved c =
    let a = c.args in
    let l = c.loop-i in
    let e = ap length c.node_name.ensures.0 in
    let p = records_in a.m.now a.n (omega arith) (laid a.layout) l.i (omega arith) in
    (omega (arith, e, p, c.front_length-front.ensures.0), omega arith)

pub returns : goal.returns
returns c =
    let a = c.args in
    let l = c.loop-i in
    let p = records_end_lem a.m.now a.n (omega arith) (laid a.layout) l.i (omega arith) in
    (omega (arith, p), omega arith)
