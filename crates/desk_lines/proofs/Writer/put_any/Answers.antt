-- `desk_lines::Writer::put_any` meets its contract. Assumes nothing.
use Rattle.std.proofs.Common.{refl, arith, sym, ◌∙◌, eqb-true}
use Rattle.std.proofs.lemmas.Bool.{eqb-false}
use Rattle.text.specs.Ascii.{ascii}
use Rattle.desk_lines.specs.Lines.{any_bytes}
use Rattle.desk_lines.specs.laws.Printing.{puts_none, any_some}
use Rattle.desk_lines.specs.laws.Writing.{room_left, writes_more, writes_as}
use Rattle.desk_lines.proofs.Writer.put_any.Goals as goal

pub returns-then-is_empty : goal.returns-then-is_empty
returns-then-is_empty c =
    let b = c.args.bytes.now in
    record { same_buffer = refl; puts = puts_none b _ _ (eqb-true _ _ (sym c.is_empty.ensures ∙ c.if-is_empty.true)) }

pub put_hex-requires : goal.put_hex-requires
put_hex-requires c = room_left c.put.ensures _ _ c.requires (omega arith)

pub returns : goal.returns
unfolding ascii
returns c =
    let b = c.args.bytes.now in
    let some = eqb-false _ _ (sym c.is_empty.ensures ∙ c.if-is_empty.false) in
    writes_as (writes_more c.put.ensures (omega arith) c.put_hex.ensures) (any_bytes b) (any_some b some)
