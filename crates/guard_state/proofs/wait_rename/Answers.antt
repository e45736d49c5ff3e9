-- `guard_state::wait_rename` meets its contract. Assumes nothing.
use native.Mathlib.Omega.{arith}
use mathlib.Core.Path.{◌≡◌, refl, ap₂, ◌∙◌}
use lib.ListN.{length, set}
use Rattle.lists.specs.Parts.{overwrite}
use mathlib.Core.List.{List}
use Prim.Native.Nat.{ℕ, ◌%◌}
use Rattle.filesystem.specs.Tables.{NODES}
use Rattle.memory.specs.Layout.{mem_of, with_head, with_staged}
use Rattle.rules.specs.Requests.{asked, renaming}
use Rattle.guard_state.specs.State.{numbers_of, cleared_head, pendings, pending_in, gathered_in, gathered_none}
use Rattle.guard_state.specs.State.{staged_bytes}
use Rattle.guard_state.specs.laws.WaitLaws.{kept, staged_name, staged_waits}
use Rattle.guard_state.proofs.wait_rename.Goals as goal

pub returns : goal.returns
unfolding cleared_head numbers_of pendings pending_in gathered_in staged_bytes
returns c =
    let a = c.args in
    let z = mem_of a.m.now in
    let e : mem_of _ ≡ with_head (set (set (set (set (cleared_head z.head) 3 17) 4 a.node) 6 a.parent) 14
    (length a.name.now)) (with_staged (overwrite z.staged 0 a.name.now) z) =
    c.put_head-4.ensures.0 ∙ rw (
      c.put_head-3.ensures.0,
      c.put_head-2.ensures.0,
      c.put_head.ensures.0,
      c.clear.ensures.0,
      c.stage.ensures.0,
    ) in
    let k : a.node % NODES ≡ a.node = kept _ NODES c.requires.0 in
    let f = ap₂ (λ (j : ℕ) (x : List ℕ). asked (renaming j a.parent x)) k
    (staged_name z.staged a.name.now c.requires.1) in (
      λ q. staged_waits q a.m.now _ _ (overwrite z.staged 0 a.name.now) e refl refl refl
          (asked (renaming a.node a.parent a.name.now)) gathered_none refl f refl,
      omega arith,
    )
