-- `desk_lines::write_bad` meets its contract. Assumes nothing.
use Rattle.std.proofs.Common.{rules}
use Rattle.text.specs.Ascii.{ascii}
use Rattle.desk_lines.specs.Lines.{printed_bad}
use Rattle.desk_lines.specs.laws.Printing.{prints_first}
use Rattle.desk_lines.proofs.write_bad.Goals as goal

pub returns : goal.returns
unfolding printed_bad ascii
returns c =
    let p = prints_first _ _ _ _ c.put.ensures.puts in
    search rules
