-- `call_reader::read_plain` meets its contract. Assumes nothing.
use mathlib.Core.Path.{refl}
use native.Mathlib.Omega.{arith}
use Rattle.call_reader.specs.Meaning.{meant, meant_of}
use Rattle.call_reader.proofs.read_plain.Goals as goal

pub returns : goal.returns
unfolding meant_of meant
returns c = (refl, (omega arith, c.requires.1))
