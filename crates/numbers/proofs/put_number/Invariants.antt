-- `numbers::put_number` meets its contract. The invariant: i bytes are written, and y is what is left of the number.
-- Assumes nothing.
use Prim.Native.Nat.{◌/◌, ◌^◌}
use mathlib.Core.Path.{◌≡◌}
use lib.ListN.{length}
use Rattle.lists.specs.LittleEndian.{encode}
use Rattle.lists.specs.Parts.{overwrite}
use Rattle.numbers.proofs.put_number.Given as goal

abbrev pub invariant-loop-i : goal.invariant-loop-i
invariant-loop-i l = (length l.m ≡ length l.initial.m) × (l.m ≡ overwrite l.initial.m l.at (encode l.i l.x))
    × (l.y ≡ l.x / 256 ^ l.i)
