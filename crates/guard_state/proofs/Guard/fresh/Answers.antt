-- `guard_state::Guard::fresh` meets its contract. Assumes nothing.
use native.Mathlib.Omega.{arith}
use mathlib.Core.Path.{◌≡◌, ap, ◌∙◌}
use lib.ListN.{length, set}
use lib.Seq.{get_or-set_same}
use Rattle.memory.specs.Layout.{mem_of, with_head}
use Rattle.memory.specs.laws.MemLaws.{length_head, length-nodes}
use Rattle.tables.specs.View.{view_of}
use Rattle.guard_state.specs.Waits.{resting_state}
use Rattle.guard_state.specs.laws.WaitLaws.{rests_fresh}
use Rattle.guard_state.proofs.Guard.fresh.Goals as goal

pub returns : goal.returns
returns c =
    let a = c.args in
    let z = mem_of a.m.now in
    let f : length z.nodes ≡ 256 = length-nodes a.m.now in
    let h : length z.head ≡ 32 = length_head a.m.now in record {
      value = (
        λ q.
            c.rest.ensures.0 q
            ∙ ap (λ s. resting_state q (view_of 1 0 s)) c.put_head.ensures.0
            ∙ rw (c.put_node.ensures.0, c.node_row-row.ensures) (rests_fresh q (with_head (set z.head 16 0) z)
            (omega arith) (get_or-set_same z.head 16 0 0 (omega arith))),
        c.load.ensures,
      );
      keeps_length = omega arith;
    }
