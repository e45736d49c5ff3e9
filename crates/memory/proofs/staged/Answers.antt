-- `memory::staged` meets its contract. Assumes nothing.
use native.Mathlib.Omega.{arith}
use Prim.Native.Nat.{◌+◌}
use mathlib.Core.Path.{sym}
use Rattle.lists.specs.Parts.{part}
use Rattle.memory.specs.Layout.{staging_at}
use Rattle.memory.specs.laws.MemLaws.{staged_at}
use native.Mathlib.Nat.{add-sub_cancel_left}
use Rattle.lists.specs.PartLaws.{length_part}
use Rattle.memory.proofs.staged.Goals as goal

pub returns : goal.returns
unfolding part
returns c =
    let a = c.args in
    rw add-sub_cancel_left (
      sym (staged_at a.m.now a.at a.n (omega arith)),
      length_part (staging_at + a.at)
          a.n a.m.now (omega arith),
    )
