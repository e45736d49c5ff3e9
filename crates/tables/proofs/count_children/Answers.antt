-- `tables::count_children` meets its contract. The loop's invariant: the count is that so far and the count in what
-- remains. Assumes nothing.
use mathlib.Core.Path.{◌≡◌, sym, ◌∙◌}
use native.Mathlib.Omega.{arith}
use lib.ListN.{length}
use borrow.Author.Tests.{eq-eqb, ne_eqb}
use Rattle.filesystem.specs.Tables.{children, has_parent, no_node, node_at}
use Rattle.memory.specs.Layout.{mem_of}
use Rattle.memory.specs.laws.MemLaws.{length-nodes}
use Rattle.tables.specs.laws.SearchLaws.{count_hit, count_miss, count-end}
use Rattle.tables.proofs.count_children.Goals as goal
use Rattle.tables.proofs.count_children.Goals.{then-node_parent-parent, else-node_parent-parent}

pub loop-i-preserved : goal.loop-i-preserved
unfolding node_at
loop-i-preserved c =
    let a = c.args in
    let l = c.loop-i in
    let ns = (mem_of a.m.now).nodes in
    let f : length ns ≡ _ = length-nodes a.m.now in
    elim c.if-node_parent-parent.branch [
      | then-node_parent-parent w ↦ (
        omega arith,
        omega arith,
        rw w.c-is (count_hit no_node ns a.n l.i (omega arith) (has_parent a.parent)
            l.c l.invariant.2 (omega arith) (eq-eqb _ _ (sym c.node_parent.ensures ∙ w.if-node_parent-parent.true))),
      )
      | else-node_parent-parent w ↦ (
        omega arith,
        omega arith,
        rw w.c-is (count_miss no_node ns a.n l.i (omega arith) (has_parent a.parent)
            l.c l.invariant.2 (omega arith) (ne_eqb _ _ (λ q. w.if-node_parent-parent.false (c.node_parent.ensures ∙ q)))),
      )
    ]

pub returns : goal.returns
unfolding children
returns c =
    let a = c.args in
    let l = c.loop-i in
    let ns = (mem_of a.m.now).nodes in
    let f : length ns ≡ _ = length-nodes a.m.now in
    sym (count-end no_node ns a.n l.i (omega arith) (has_parent a.parent) l.c l.invariant.2 (omega arith))
