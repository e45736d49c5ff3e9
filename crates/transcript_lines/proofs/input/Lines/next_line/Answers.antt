-- `input::Lines::next_line` meets its contract. Assumes nothing.
use Rattle.std.proofs.Common.{arith}
use Rattle.transcript_lines.specs.laws.InputLaws.{no_newline, line_most}
use Rattle.transcript_lines.proofs.input.Lines.next_line.Goals as goal

pub returns-then-end-self : goal.returns-then-end-self
returns-then-end-self g c =
    let s = c.loop.self in
    let h = c.if-end-self.true in
    let m = line_most s.buffer s.filled s.next c.end-end.result h in
    let w = s.within.1 in
    (no_newline s.buffer s.filled s.next c.end-end.result c.end-end.ensures h, omega arith)
