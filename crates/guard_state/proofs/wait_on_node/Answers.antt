-- `guard_state::wait_on_node` meets its contract. Assumes nothing.
use native.Mathlib.Omega.{arith}
use mathlib.Core.Path.{◌≡◌, refl, ◌∙◌}
use lib.ListN.{set}
use Rattle.memory.specs.Layout.{mem_of, with_head}
use Rattle.guard_state.specs.State.{cleared_head}
use Rattle.guard_state.specs.laws.WaitLaws.{waits_as, node_pending, node_gathered}
use Rattle.guard_state.proofs.wait_on_node.Goals as goal

pub returns : goal.returns
unfolding cleared_head
returns c =
    let a = c.args in
    let z = mem_of a.m.now in
    let y = set (set (set (set (cleared_head z.head) 3 a.call) 4 a.node) 8 a.number) 9 a.number in
    let e : mem_of _ ≡ with_head y z =
    c.put_head-4.ensures.0
    ∙ rw (c.put_head-3.ensures.0, c.put_head-2.ensures.0, c.put_head.ensures.0, c.clear.ensures.0) in
    let f = node_pending z.head z.staged a.node a.number c.requires.1 c.requires.0 in
    let g = node_gathered z.head z.staged a.node a.number c.requires.1 c.requires.0 in
    (λ q. waits_as q a.m.now _ y e refl refl refl _ _ refl f g, omega arith)
