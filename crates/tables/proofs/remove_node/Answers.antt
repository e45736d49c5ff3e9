-- `tables::remove_node` meets its contract. Assumes nothing.
use native.Mathlib.Omega.{arith}
use mathlib.Core.Path.{◌≡◌, ap, ◌∙◌}
use Prim.Native.Nat.{◌-◌}
use lib.ListN.{length}
use Rattle.memory.specs.Layout.{mem_of}
use Rattle.memory.specs.laws.MemLaws.{length-nodes, length_digests}
use Rattle.tables.specs.View.{view_of}
use Rattle.tables.specs.laws.ViewLaws.{view_remove}
use Rattle.tables.proofs.remove_node.Goals as goal

pub returns : goal.returns
returns c =
    let a = c.args in
    let m = mem_of a.m.now in
    let ln : length m.nodes ≡ 256 = length-nodes a.m.now in
    let ld : length m.digests ≡ 1024 = length_digests a.m.now in
    let h = c.pages_of-s.ensures.0 in record {
      by_index = λ o. ap (view_of (a.n - 1) o) (c.move_nodes.ensures.0 ∙ rw c.move_digests.ensures.0)
          ∙ view_remove m a.n o h (omega arith) (omega arith);
      keeps_length = omega arith;
    }
