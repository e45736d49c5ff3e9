-- `guard_state::stop` meets its contract. Assumes nothing.
use native.Mathlib.Omega.{arith}
use mathlib.Core.Path.{◌≡◌, ◌∙◌}
use lib.ListN.{set}
use Rattle.memory.specs.Layout.{mem_of, with_head}
use Rattle.guard_state.specs.State.{cleared_head}
use Rattle.guard_state.specs.laws.WaitLaws.{stops_as}
use Rattle.guard_state.proofs.stop.Goals as goal

pub returns : goal.returns
returns c =
    let a = c.args in
    let z = mem_of a.m.now in
    let e : mem_of _ ≡ with_head (set (cleared_head z.head) 2 0) z = c.put_head.ensures.0
    ∙ rw c.clear.ensures.0 in
    (λ q. stops_as q a.m.now _ e, omega arith)
