-- `guard_state::wait_unmap` meets its contract. Assumes nothing.
use native.Mathlib.Omega.{arith}
use mathlib.Core.Path.{◌≡◌, refl, ◌∙◌}
use lib.ListN.{set}
use Rattle.memory.specs.Layout.{mem_of, with_head}
use Rattle.rules.specs.Requests.{asked, unmapping}
use Rattle.guard_state.specs.State.{numbers_of, cleared_head, pendings, pending_in, gathered_in, gathered_none}
use Rattle.guard_state.specs.laws.WaitLaws.{waits_as}
use Rattle.guard_state.proofs.wait_unmap.Goals as goal

pub returns : goal.returns
unfolding cleared_head numbers_of pendings pending_in gathered_in
returns c =
    let a = c.args in
    let z = mem_of a.m.now in
    let e : mem_of _ ≡ with_head (set (set (cleared_head z.head) 3 16) 6 a.address) z =
    c.put_head-2.ensures.0 ∙ rw (c.put_head.ensures.0, c.clear.ensures.0) in
    (λ q. waits_as q a.m.now _ _ e refl refl refl (asked (unmapping a.address)) gathered_none refl refl refl, omega arith)
