-- `memory::node_name` meets its contract. Assumes nothing.
use native.Mathlib.Omega.{arith}
use Prim.Native.Nat.{◌+◌, ◌*◌}
use mathlib.Core.Path.{sym}
use Rattle.lists.specs.Parts.{part}
use Rattle.memory.specs.Records.{node_width}
use Rattle.memory.specs.Layout.{nodes_at}
use Prim.Native.Nat.{◌%◌}
use lib.ListN.{get_or}
use native.Mathlib.Nat.{add-sub_cancel_left}
use Rattle.lists.specs.PartLaws.{length_part}
use Rattle.memory.specs.laws.MemLaws.{node-name}
use Rattle.memory.proofs.node_name.Goals as goal

pub returns : goal.returns
unfolding part
returns c =
    let a = c.args in
    let at = nodes_at + a.i * node_width in
    let n = get_or a.m.now (at + 22) 0 % 33 in
    rw (add-sub_cancel_left, c.name_length-n.ensures)
    (sym (node-name a.m.now a.i (omega arith)), omega (arith, length_part (at + 23) n a.m.now (omega arith)))
