-- `moves::place_parents` meets its contract. The invariant: the parents of the nodes before k are placed, and whatever
-- the memory holds, these lead to places of nodes. Assumes nothing.
use native.Mathlib.Omega.{arith}
use mathlib.Core.Path.{◌≡◌, ap, sym, ◌∙◌}
use Prim.Native.Nat.{◌+◌}
use lib.ListN.{length, take}
use borrow.Author.Tests.{eqb-true}
use Rattle.filesystem.specs.Tables.{Node, node_at}
use Rattle.memory.specs.Layout.{mem_of}
use Rattle.tables.specs.laws.RowsInUse.{node_front_lem}
use Rattle.links.specs.laws.ParentLaws.{placed-next}
use Rattle.moves.specs.laws.MoveLaws.{joined-next}
use Rattle.moves.proofs.place_parents.Goals as goal

pub loop-k-preserved : goal.loop-k-preserved
loop-k-preserved c =
    let a = c.args in
    let p = c.requires in
    let l = c.loop-k in
    let f = c.parent_place-parent in
    let ns = (mem_of a.m.now).nodes in
    let size = length c.node_name.result.now + 1 in
    let named : length c.node_name.result.now ≡ length (node_at (take a.n ns) l.k).name =
    ap length c.node_name.ensures.0
    ∙ ap (λ (x : Node). length x.name) (sym (node_front_lem a.n ns l.k (omega arith))) in (
      omega arith,
      joined-next f.result size l.invariant.1 (omega (arith, p.1)) f.ensures.0 (omega arith),
      λ w e.
          let q = f.ensures.1 w e l.invariant.0 in
          placed-next (node_at (take a.n ns)) l.to l.far a.n l.k f.result size (l.invariant.2 w e)
          (omega (arith, p.1)) f.ensures.0 q.is_parent (eqb-true _ 2 q.is_directory_lem)
          (omega (arith, named)),
    )
