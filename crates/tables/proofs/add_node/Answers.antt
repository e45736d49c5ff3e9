-- `tables::add_node` meets its contract. Assumes nothing.
use native.Mathlib.Omega.{arith}
use mathlib.Core.Path.{◌≡◌, ap, ◌∙◌}
use Prim.Native.Nat.{◌+◌}
use lib.ListN.{length}
use Rattle.memory.specs.Layout.{mem_of}
use Rattle.memory.specs.Records.{node_of}
use Rattle.memory.specs.laws.MemLaws.{length-nodes}
use Rattle.tables.specs.View.{view_of}
use Rattle.tables.specs.laws.ViewLaws.{view_add}
use Rattle.tables.proofs.add_node.Goals as goal

pub returns : goal.returns
returns c =
    let pre = c.requires in
    let a = c.args in
    let m = mem_of a.m.now in
    let f : length m.nodes ≡ 256 = length-nodes a.m.now in record {
      by_index = λ o. ap (view_of (a.n + 1) o) c.put_node.ensures.0
          ∙ view_add m a.n o (node_of a.row) (omega arith) pre.1;
      keeps_length = omega arith;
    }
