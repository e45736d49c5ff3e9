-- `desk_lines::Writer::put_done` meets its contract. Assumes nothing.
use Rattle.std.proofs.Common.{arith, length, ◌+◌, ◌*◌}
use Rattle.text.specs.Ascii.{ascii}
use Rattle.desk_lines.specs.laws.Printing.{length-number, length-any, done_pieces}
use Rattle.desk_lines.specs.laws.Writing.{room_left, writes_more, writes_as}
use Rattle.desk_lines.proofs.Writer.put_done.Goals as goal

pub put_number-requires : goal.put_number-requires
put_number-requires c = room_left c.put.ensures _ _ c.requires (omega arith)

pub put_any-requires : goal.put_any-requires
put_any-requires c =
    let n = length-number c.args.number (omega arith) in
    room_left c.put_number.ensures _ (22 + 2 * length c.args.bytes.now)
    (room_left c.put.ensures _ _ c.requires (omega arith)) (omega arith)

pub put-requires-2 : goal.put-requires-2
put-requires-2 c =
    let b = c.args.bytes.now in
    let n = length-number c.args.number (omega arith) in
    let m = length-any b in
    room_left c.put_any.ensures _ (2 + 2 * length b)
    (room_left c.put_number.ensures _ (22 + 2 * length b)
    (room_left c.put.ensures _ _ c.requires (omega arith)) (omega arith)) (omega arith)

pub returns : goal.returns
unfolding ascii
returns c =
    let w = writes_more c.put.ensures (omega arith) c.put_number.ensures in
    let v = writes_more w (omega arith) c.put_any.ensures in
    writes_as (writes_more v (omega arith) c.put-2.ensures) _ (done_pieces c.args.number c.args.bytes.now)
