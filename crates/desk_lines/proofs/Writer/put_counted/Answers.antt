-- `desk_lines::Writer::put_counted` meets its contract. Assumes nothing.
use Rattle.std.proofs.Common.{arith, append_assoc}
use Rattle.text.specs.Ascii.{ascii}
use Rattle.text.specs.Digits.{decimal_of}
use Rattle.desk_lines.specs.laws.Printing.{length-number}
use Rattle.desk_lines.specs.laws.Writing.{room_left, writes_more, writes_as}
use Rattle.desk_lines.proofs.Writer.put_counted.Goals as goal

pub put_number-requires : goal.put_number-requires
put_number-requires c = room_left c.put.ensures _ _ c.requires (omega arith)

pub put-requires-2 : goal.put-requires-2
put-requires-2 c =
    let n = length-number c.args.number (omega arith) in
    room_left c.put_number.ensures _ 21 (room_left c.put.ensures _ _ c.requires (omega arith)) (omega arith)

pub returns : goal.returns
unfolding ascii
returns c =
    let w = writes_more c.put.ensures (omega arith) c.put_number.ensures in
    writes_as (writes_more w (omega arith) c.put-2.ensures) _
    (append_assoc c.args.word.now (decimal_of c.args.number) (ascii "\n"))
