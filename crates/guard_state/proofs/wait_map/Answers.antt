-- `guard_state::wait_map` meets its contract. Assumes nothing.
use native.Mathlib.Omega.{arith}
use mathlib.Core.Path.{◌≡◌, refl, ap, ◌∙◌}
use lib.ListN.{set}
use Prim.Native.Nat.{ℕ, ◌+◌}
use Rattle.memory.specs.Layout.{mem_of, with_head}
use Rattle.filesystem.specs.Tables.{FILE_BYTES}
use Rattle.rules.specs.Requests.{asked, mapping}
use Rattle.guard_state.specs.State.{numbers_of, cleared_head, pendings, pending_in, gathered_in, gathered_none}
use Rattle.guard_state.specs.laws.WaitLaws.{kept, waits_as}
use Rattle.guard_state.proofs.wait_map.Goals as goal

pub returns : goal.returns
unfolding cleared_head numbers_of pendings pending_in gathered_in
returns c =
    let a = c.args in
    let z = mem_of a.m.now in
    let e : mem_of _ ≡ with_head (set (set (cleared_head z.head) 3 15) 12 a.size) z =
    c.put_head-2.ensures.0 ∙ rw (c.put_head.ensures.0, c.clear.ensures.0) in
    let f = ap (λ (n : ℕ). asked (mapping n)) (kept a.size (FILE_BYTES + 1) (omega arith)) in
    (λ q. waits_as q a.m.now _ _ e refl refl refl (asked (mapping a.size)) gathered_none refl f refl, omega arith)
