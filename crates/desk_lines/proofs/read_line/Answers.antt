-- `desk_lines::read_line` meets its contract. Assumes nothing.
use Rattle.std.proofs.Common.{refl, sym, ◌∙◌, length}
use Rattle.desk_lines.specs.laws.LineLaws.{was_ok, reads_good, reads_refused, reads_bad}
use Rattle.desk_lines.specs.laws.Printing.{all_behind}
use Rattle.desk_lines.proofs.read_line.Goals as goal

pub returns-in_err-entry : goal.returns-in_err-entry
returns-in_err-entry c =
    rw c.from_residual.ensures (reads_bad _ c.args.out.now _ c.in_err-entry.ensures refl)

pub returns-in_err-length : goal.returns-in_err-length
returns-in_err-length c =
    let x = c.args.line.now in
    let d = c.decode.ensures in
    rw (c.from_residual-in_err-length.ensures, c.in_ok-entry.ensures.1, ← all_behind x 2 (length x) refl)
    (reads_refused _ _ c.args.out.now _ c.decode.result d.answer d.left (sym c.ok.ensures.value ∙ c.in_err-length.was))

pub returns : goal.returns
returns c =
    let x = c.args.line.now in
    let d = c.decode.ensures in
    rw (c.in_ok-entry.ensures.1, ← all_behind x 2 (length x) refl)
    (reads_good _ c.args.out.now _ c.decode.result d.answer d.left c.requires c.in_ok-length.length
    (was_ok _ _ (sym c.ok.ensures.value ∙ c.in_ok-length.was)) c.in_ok-entry.entry)
