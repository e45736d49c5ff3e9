-- `text::hex::encode` meets its contract. The buffer has the digits of the first i bytes.
-- Assumes nothing.
use Rattle.std.proofs.Common.{◌≡◌, ◌*◌, length, take}
use Rattle.lists.specs.Parts.{overwrite}
use Rattle.text.specs.Hex.{hex_of}
use Rattle.text.proofs.hex.encode.Given as goal

abbrev pub invariant-loop-i : goal.invariant-loop-i
invariant-loop-i l = (length l.out ≡ length l.initial.out)
    × (l.out ≡ overwrite l.initial.out 0 (take (2 * l.i) (hex_of l.bytes)))
