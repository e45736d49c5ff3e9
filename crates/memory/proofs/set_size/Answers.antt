-- `memory::set_size` meets its contract. Assumes nothing.
use native.Mathlib.Omega.{arith}
use Prim.Native.Nat.{◌+◌, ◌*◌}
use mathlib.Core.Path.{ap, ◌∙◌}
use Rattle.lists.specs.Parts.{overwrite}
use Rattle.memory.specs.Records.{node_width}
use Rattle.memory.specs.Layout.{mem_of, nodes_at}
use Rattle.memory.specs.laws.MemLaws.{mem_size}
use Rattle.memory.proofs.set_size.Goals as goal

pub returns : goal.returns
returns c =
    let bytes4 = c.bytes4-b in
    let a = c.args in
    let e = c.put.ensures ∙ ap (overwrite a.m.now (nodes_at + a.i * node_width + 18))
    bytes4.ensures in
    (ap mem_of e ∙ mem_size a.m.now (omega arith) a.i a.size (omega arith) (omega arith), omega arith)
