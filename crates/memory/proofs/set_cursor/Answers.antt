-- `memory::set_cursor` meets its contract. Assumes nothing.
use native.Mathlib.Omega.{arith}
use Prim.Native.Nat.{◌+◌, ◌*◌}
use mathlib.Core.Path.{ap, ◌∙◌}
use Rattle.lists.specs.Parts.{overwrite}
use Rattle.memory.specs.Records.{open_width}
use Rattle.memory.specs.Layout.{mem_of, opens_at}
use Rattle.memory.specs.laws.MemLaws.{mem_cursor}
use Rattle.memory.proofs.set_cursor.Goals as goal

pub returns : goal.returns
returns c =
    let bytes4 = c.bytes4-b in
    let a = c.args in
    let e = c.put.ensures ∙ ap (overwrite a.m.now (opens_at + a.i * open_width + 16))
    bytes4.ensures in
    (ap mem_of e ∙ mem_cursor a.m.now (omega arith) a.i a.cursor (omega arith) (omega arith), omega arith)
