-- `memory::map_row` meets its contract. Assumes nothing.
use native.Mathlib.Omega.{arith}
use Rattle.lists.specs.LittleEndian.{encode}
use Rattle.lists.specs.Parts.{overwrite}
use Rattle.memory.specs.Records.{map_row}
use Rattle.memory.specs.laws.RecordLaws.{map_of-row}
use Rattle.memory.proofs.map_row.Goals as goal

pub returns : goal.returns
unfolding map_row overwrite encode
returns c =
    let a = c.args in
    rw (c.put_bytes-2.ensures, c.put_bytes.ensures, c.bytes8.ensures, c.bytes4.ensures)
    (map_of-row (record { address = a.address; size = a.size }) (omega arith) (omega arith))
