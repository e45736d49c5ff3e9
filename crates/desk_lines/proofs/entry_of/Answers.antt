-- `desk_lines::entry_of` meets its contract. Assumes nothing.
use Rattle.std.proofs.Common.{sym, ◌∙◌}
use Rattle.text.specs.Ascii.{ascii}
use Rattle.text.specs.laws.LineLaws.{begins-long}
use Rattle.desk_lines.specs.Lines.{line_for}
use Rattle.desk_lines.specs.laws.LineLaws.{line_call, line_reply, line_bad}
use Rattle.desk_lines.proofs.entry_of.Goals as goal

pub returns-then-starts : goal.returns-then-starts
unfolding ascii line_for
returns-then-starts c =
    let x = c.args.line.now in
    let e = sym c.starts.ensures ∙ c.if-starts.true in
    (begins-long x (ascii "c ") e, line_call x e)

pub returns-then-starts-2 : goal.returns-then-starts-2
unfolding ascii line_for
returns-then-starts-2 c =
    let x = c.args.line.now in
    let e = sym c.starts-else-starts.ensures ∙ c.if-starts-2.true in
    (begins-long x (ascii "r ") e, line_reply x (sym c.starts.ensures ∙ c.if-starts.false) e)

pub returns-else-starts-2 : goal.returns-else-starts-2
unfolding ascii
returns-else-starts-2 c =
    line_bad c.args.line.now (sym c.starts.ensures ∙ c.if-starts.false)
    (sym c.starts-else-starts.ensures ∙ c.if-starts-2.false)
