-- `numbers::signed_of` meets its contract. Assumes nothing.
use Rattle.std.proofs.Common.{arith}
use Rattle.std.proofs.lemmas.Int.{to_z-of_z}
use Rattle.lists.specs.Signed.{signed_low, signed_high}
use Rattle.numbers.proofs.signed_of.Goals as goal

pub returns : goal.returns
returns c = let e = c.cast_signed.ensures in grind (arith, to_z-of_z, signed_low, signed_high)
