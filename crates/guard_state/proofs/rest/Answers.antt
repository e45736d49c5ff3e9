-- `guard_state::rest` meets its contract. Assumes nothing.
use native.Mathlib.Omega.{arith}
use mathlib.Core.Path.{◌≡◌, ◌∙◌}
use lib.ListN.{set}
use Rattle.memory.specs.Layout.{mem_of, with_head}
use Rattle.guard_state.specs.State.{cleared_head}
use Rattle.guard_state.specs.laws.WaitLaws.{rests_as}
use Rattle.guard_state.proofs.rest.Goals as goal

pub returns : goal.returns
returns c =
    let a = c.args in
    let z = mem_of a.m.now in
    let e : mem_of _ ≡ with_head (set (set (cleared_head z.head) 0 a.nodes) 1 a.opens) z =
    c.put_head-2.ensures.0 ∙ rw (c.put_head.ensures.0, c.clear.ensures.0) in
    (λ q. rests_as q a.m.now _ a.nodes a.opens c.requires.0 c.requires.1 e, omega arith)
