-- `guard_state::wait_create` meets its contract. Assumes nothing.
use native.Mathlib.Omega.{arith}
use mathlib.Core.Path.{◌≡◌, refl, ap, ◌∙◌}
use lib.ListN.{length, set}
use Rattle.lists.specs.Parts.{overwrite}
use mathlib.Core.List.{List}
use Prim.Native.Nat.{ℕ}
use Rattle.memory.specs.Layout.{mem_of, with_head, with_staged}
use Rattle.rules.specs.Requests.{asked, creating}
use Rattle.guard_state.specs.State.{numbers_of, cleared_head, pendings, pending_in, gathered_in, gathered_none}
use Rattle.guard_state.specs.State.{staged_bytes}
use Rattle.guard_state.specs.laws.WaitLaws.{staged_name, staged_waits}
use Rattle.guard_state.proofs.wait_create.Goals as goal

pub returns : goal.returns
unfolding cleared_head numbers_of pendings pending_in gathered_in staged_bytes
returns c =
    let a = c.args in
    let z = mem_of a.m.now in
    let e : mem_of _ ≡ with_head (set (set (set (set (set (cleared_head z.head) 3 1) 6 a.parent) 7 a.kind) 8
    a.mode) 14 (length a.name.now)) (with_staged (overwrite z.staged 0 a.name.now) z) =
    c.put_head-5.ensures.0 ∙ rw (
      c.put_head-4.ensures.0,
      c.put_head-3.ensures.0,
      c.put_head-2.ensures.0,
      c.put_head.ensures.0,
      c.clear.ensures.0,
      c.stage.ensures.0,
    ) in
    let f = ap (λ (x : List ℕ). asked (creating a.parent a.kind a.mode x))
    (staged_name z.staged a.name.now c.requires.0) in (
      λ q. staged_waits q a.m.now _ _ (overwrite z.staged 0 a.name.now) e refl refl refl
          (asked (creating a.parent a.kind a.mode a.name.now)) gathered_none refl f refl,
      omega arith,
    )
