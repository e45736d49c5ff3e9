-- `memory::digest` meets its contract. Assumes nothing.
use native.Mathlib.Omega.{arith}
use Prim.Native.Nat.{◌+◌, ◌*◌}
use mathlib.Core.Path.{sym}
use Rattle.lists.specs.Parts.{part}
use Rattle.memory.specs.Layout.{digests_at, digest_width}
use Rattle.memory.specs.laws.MemLaws.{digest-at}
use native.Mathlib.Nat.{add-sub_cancel_left}
use Rattle.lists.specs.PartLaws.{length_part}
use Rattle.memory.proofs.digest.Goals as goal

pub returns : goal.returns
unfolding part
returns c =
    let a = c.args in
    let at = digests_at + a.k * digest_width in
    rw add-sub_cancel_left (
      sym (digest-at a.m.now a.k (omega arith)),
      length_part at digest_width a.m.now
          (omega arith),
    )
