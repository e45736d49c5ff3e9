-- `guard_state::finish` meets its contract. Assumes nothing.
use native.Mathlib.Omega.{arith}
use mathlib.Core.Path.{◌≡◌, ◌∙◌}
use lib.ListN.{set}
use Rattle.memory.specs.Layout.{mem_of, with_head}
use Rattle.guard_state.specs.laws.WaitLaws.{ends_as}
use Rattle.guard_state.proofs.finish.Goals as goal

pub returns : goal.returns
returns c =
    let a = c.args in
    let e : mem_of _ ≡ with_head (set (set (mem_of a.m.now).head 2 1) 3 0) (mem_of a.m.now) =
    c.put_head-2.ensures.0 ∙ rw c.put_head.ensures.0 in
    (λ q. ends_as q a.m.now _ e, omega arith)
