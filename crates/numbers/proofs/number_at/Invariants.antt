-- `numbers::number_at` meets its contract. The invariant: x is the number in the bytes from i on. Assumes nothing.
use Prim.Native.Nat.{◌+◌, ◌-◌, ◌^◌, ◌<◌}
use mathlib.Core.Path.{◌≡◌}
use Rattle.lists.specs.LittleEndian.{decode}
use Rattle.lists.specs.Parts.{part}
use Rattle.numbers.proofs.number_at.Given as goal

abbrev pub invariant-loop-i : goal.invariant-loop-i
invariant-loop-i l = (l.x ≡ decode (part (l.at + l.i) (l.w - l.i) l.b)) × (l.x < 256 ^ (l.w - l.i))
