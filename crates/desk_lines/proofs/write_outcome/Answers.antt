-- `desk_lines::write_outcome` meets its contract. Assumes nothing.
use Rattle.std.proofs.Common.{rules}
use Rattle.desk_lines.specs.laws.Printing.{prints_first}
use Rattle.desk_lines.proofs.write_outcome.Goals as goal

pub returns : goal.returns
returns c =
    let p = prints_first _ _ _ _ c.put_outcome.ensures.puts in
    search rules
