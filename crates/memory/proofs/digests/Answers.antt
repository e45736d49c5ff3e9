-- `memory::digests` meets its contract. Assumes nothing.
use Prim.Native.Nat.{◌*◌}
use mathlib.Core.Path.{sym}
use native.Mathlib.Nat.{add-sub_cancel_left}
use native.Mathlib.Omega.{arith}
use Rattle.lists.specs.Parts.{part}
use Rattle.lists.specs.PartLaws.{length_part}
use Rattle.memory.specs.Layout.{digests_at, digest_width}
use Rattle.memory.specs.laws.FlatLaws.{flat_digests}
use Rattle.memory.proofs.digests.Goals as goal

pub returns : goal.returns
unfolding part
returns c =
    let a = c.args in
    rw add-sub_cancel_left (
      sym (flat_digests a.m.now a.n (omega arith) (omega arith)),
      length_part digests_at (a.n * digest_width)
          a.m.now (omega arith),
    )
