-- `guard_state::wait_page` meets its contract. Assumes nothing.
use native.Mathlib.Omega.{arith}
use mathlib.Core.Path.{◌≡◌, refl, ap, ◌∙◌}
use mathlib.Core.List.{◌++◌}
use lib.ListN.{length, set, take}
use Prim.Native.Nat.{ℕ, ◌+◌, ◌%◌}
use Rattle.lists.specs.Parts.{overwrite}
use Rattle.filesystem.specs.Tables.{NODES, FILE_BYTES, DATA_BYTES}
use Rattle.memory.specs.Layout.{mem_of, open_rows, with_head, with_staged}
use Rattle.memory.specs.laws.MemLaws.{length-staged}
use Rattle.rules.specs.Requests.{reading}
use Rattle.guard_state.specs.State.{numbers_of, cleared_head, pendings, pending_in, gathered_in, gathered_read}
use Rattle.guard_state.specs.State.{staged_bytes, file_pages}
use Rattle.guard_state.specs.laws.StageLaws.{bytes-more}
use Rattle.guard_state.specs.laws.WaitLaws.{kept, staged_waits}
use Rattle.guard_state.proofs.wait_page.Goals as goal

pub returns : goal.returns
unfolding cleared_head numbers_of pendings pending_in gathered_in staged_bytes
returns c =
    let a = c.args in
    let z = mem_of a.m.now in
    let y = overwrite z.staged a.bytes a.more.now in
    let e : mem_of _ ≡ with_head
    (set (set (set (set (set (set (set (cleared_head z.head) 3 8) 4 a.node) 5 a.opened) 10 a.position) 11
    a.count) 13 a.page) 14 (a.bytes + length a.more.now)) (with_staged y z) =
    c.put_head.ensures.0 ∙ rw (c.put_read.ensures.0, c.stage.ensures.0) in
    let n = kept a.node NODES (omega arith) in
    let o = kept a.opened open_rows (omega arith) in
    let s = kept a.position (FILE_BYTES + 1) (omega arith) in
    let l = kept a.count (DATA_BYTES + 1) (omega arith) in
    let g = kept a.page (file_pages + 1) (omega arith) in
    let h : (a.bytes + length a.more.now) % (DATA_BYTES + 1) ≡ a.bytes + length a.more.now = kept _
    (DATA_BYTES + 1) (omega (arith, c.requires.5)) in
    let x : take (a.bytes + length a.more.now) y ≡ take a.bytes z.staged
    ++ a.more.now = bytes-more z.staged (length-staged a.m.now (omega arith)) a.more.now a.bytes
    (omega (arith, c.requires.5)) in
    let w = ap (λ (i : ℕ). gathered_read (take i y)) h ∙ ap gathered_read x in (
      λ q. staged_waits q a.m.now _ _ y e refl refl refl (reading a.node a.opened a.position a.count
          a.page) (gathered_read (take a.bytes z.staged ++ a.more.now)) refl
          (λ i. reading (n i) (o i) (s i) (l i) (g i)) w,
      omega arith,
    )
