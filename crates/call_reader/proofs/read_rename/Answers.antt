-- `call_reader::read_rename` meets its contract. Assumes nothing.
use native.Mathlib.Omega.{arith}
use mathlib.Core.Path.{refl}
use Rattle.rules.specs.Calls.{rename}
use Rattle.call_reader.specs.Meaning.{meant, meant_of}
use Rattle.call_reader.specs.laws.FieldLaws.{two_missing, two-short, two_within}
use Rattle.call_reader.proofs.read_rename.Goals as goal

pub returns-then-s-eq1 : goal.returns-then-s-eq1
unfolding meant_of meant
returns-then-s-eq1 c = (two_missing rename c.args.s.now (omega arith), tt)

pub returns-then-s-second : goal.returns-then-s-second
unfolding meant_of meant
returns-then-s-second c =
    (two-short rename c.args.s.now (omega arith) c.if-s-second.true, tt)

pub returns : goal.returns
unfolding meant_of meant
returns c = (
  two_within rename c.args.s.now (omega arith) _ refl (omega arith),
  (omega arith, omega arith, omega (arith, c.type_inv.s 1)),
)
