-- `call_reader::read_unmap` meets its contract. Assumes nothing.
use native.Mathlib.Omega.{arith}
use mathlib.Core.Path.{refl}
use mathlib.Core.Bool.{true}
use Rattle.rules.specs.Calls.{unmap}
use Rattle.call_reader.specs.Meaning.{meant, meant_of}
use Rattle.call_reader.specs.laws.FieldLaws.{number_below, alone-wrong, alone_allowed}
use Rattle.call_reader.proofs.read_unmap.Goals as goal

pub returns-then-s : goal.returns-then-s
unfolding meant_of meant
returns-then-s c =
    (alone-wrong 8 (λ a. true) unmap c.args.s.now c.requires.0 c.requires.1 c.if-s.true, tt)

pub returns : goal.returns
unfolding meant_of meant
returns c = (
  alone_allowed 8 (λ a. true) unmap c.args.s.now c.requires.0 _ c.u64_at-address.ensures c.if-s.false refl,
  number_below 8 1 c.args.s.now _ c.requires.1 (omega arith) c.u64_at-address.ensures,
)
