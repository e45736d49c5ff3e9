-- `memory::open_row` meets its contract. Assumes nothing.
use native.Mathlib.Omega.{arith}
use mathlib.Core.Path.{refl}
use Rattle.lists.specs.LittleEndian.{encode}
use Rattle.lists.specs.Parts.{overwrite}
use Rattle.filesystem.specs.Tables.{new_open_file, with_cursor}
use Rattle.memory.specs.Records.{open_row}
use Rattle.memory.specs.laws.RecordLaws.{open_of-row}
use Rattle.memory.proofs.open_row.Goals as goal

pub returns : goal.returns
unfolding open_row overwrite encode
returns c =
    let a = c.args in
    rw (
      c.put_bytes-3.ensures,
      c.put_bytes-2.ensures,
      c.put_bytes.ensures,
      c.bytes8.ensures,
      c.bytes4.ensures,
      c.bytes4-2.ensures,
    ) (
      open_of-row a.hint (with_cursor a.cursor (new_open_file a.handle a.descriptor a.rights)) record
          { handle_fits = omega arith; descriptor_fits = omega arith; cursor_fits = omega arith },
      refl,
    )
