-- `text::hex::fill` meets its contract. The buffer has the first i bytes.
-- Assumes nothing.
use Rattle.std.proofs.Common.{◌≡◌, length, take}
use Rattle.lists.specs.Parts.{overwrite}
use Rattle.text.specs.Hex.{bytes_of}
use Rattle.text.proofs.hex.fill.Given as goal

abbrev pub invariant-loop-i : goal.invariant-loop-i
invariant-loop-i l = (length l.out ≡ length l.initial.out)
    × (l.out ≡ overwrite l.initial.out 0 (take l.i (bytes_of l.text)))
