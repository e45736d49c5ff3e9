-- `guard_state::wait_read` meets its contract. Assumes nothing.
use native.Mathlib.Omega.{arith}
use mathlib.Core.Path.{refl}
use Prim.Native.Nat.{◌+◌}
use Rattle.filesystem.specs.Tables.{NODES, FILE_BYTES, DATA_BYTES}
use Rattle.memory.specs.Layout.{open_rows}
use Rattle.rules.specs.Requests.{reading}
use Rattle.guard_state.specs.State.{numbers_of, cleared_head, pendings, pending_in, gathered_in, gathered_none}
use Rattle.guard_state.specs.State.{staged_bytes, file_pages}
use Rattle.guard_state.specs.laws.WaitLaws.{kept, waits_as}
use Rattle.guard_state.proofs.wait_read.Goals as goal

pub returns : goal.returns
unfolding cleared_head numbers_of pendings pending_in gathered_in staged_bytes
returns c =
    let a = c.args in
    let n = kept a.node NODES (omega arith) in
    let o = kept a.opened open_rows (omega arith) in
    let s = kept a.position (FILE_BYTES + 1) (omega arith) in
    let l = kept a.count (DATA_BYTES + 1) (omega arith) in
    let g = kept a.page (file_pages + 1) (omega arith) in (
      λ q. waits_as q a.m.now _ _ c.put_read.ensures.0 refl refl refl (reading a.node a.opened a.position
          a.count a.page) gathered_none refl (λ i. reading (n i) (o i) (s i) (l i) (g i)) refl,
      omega arith,
    )
