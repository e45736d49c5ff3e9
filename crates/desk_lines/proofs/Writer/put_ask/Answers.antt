-- `desk_lines::Writer::put_ask` meets its contract. Assumes nothing.
use Rattle.std.proofs.Common.{length, ◌+◌, ◌*◌, arith}
use Rattle.text.specs.Ascii.{ascii}
use Rattle.text.specs.laws.HexCases.{length-hex_of}
use Rattle.desk_lines.specs.laws.Printing.{ask_pieces}
use Rattle.desk_lines.specs.laws.Writing.{room_left, writes_more, writes_as}
use Rattle.desk_lines.proofs.Writer.put_ask.Goals as goal

pub put_hex-requires : goal.put_hex-requires
put_hex-requires c = room_left c.put.ensures _ _ c.requires (omega arith)

pub put-requires-2 : goal.put-requires-2
put-requires-2 c =
    let e = length-hex_of c.args.request.now in
    room_left c.put_hex.ensures _ (1 + 2 * length c.args.request.now)
    (room_left c.put.ensures _ _ c.requires (omega arith)) (omega arith)

pub returns : goal.returns
unfolding ascii
returns c =
    let w = writes_more c.put.ensures (omega arith) c.put_hex.ensures in
    writes_as (writes_more w (omega arith) c.put-2.ensures) _ (ask_pieces c.args.request.now)
