-- `call_reader::read_numbered` meets its contract. Assumes nothing.
use native.Mathlib.Omega.{arith}
use Rattle.call_reader.specs.Meaning.{made_by, meant, meant_of}
use Rattle.call_reader.specs.laws.FieldLaws.{number_missing, number-low, number-high, number_within}
use Rattle.call_reader.proofs.read_numbered.Goals as goal
use Rattle.call_reader.proofs.read_numbered.Goals.{then-s-eq1-via-then-s-eq1, then-s-eq1-via-else-s-eq1+then-s-least}
use Rattle.call_reader.proofs.read_numbered.Goals.{then-s-eq1-via-else-s-eq1+else-s-least+then-most-s}

pub returns-then-s-eq1 : goal.returns-then-s-eq1
unfolding meant_of
returns-then-s-eq1 c =
    let a = c.args in
    let make = made_by a.kind in (
      elim c.then-s-eq1.branch [
        | then-s-eq1-via-then-s-eq1 w ↦ number_missing a.least a.most make a.s.now w.if-s-eq1.true
        | then-s-eq1-via-else-s-eq1+then-s-least w ↦
            number-low a.least a.most make a.s.now (omega (arith, w.if-s-eq1.false)) w.if-s-least.true
        | then-s-eq1-via-else-s-eq1+else-s-least+then-most-s w ↦
            number-high a.least a.most make a.s.now (omega (arith, w.if-s-eq1.false)) w.if-s-least.false
            w.if-most-s.true
      ],
      tt,
    )

pub returns : goal.returns
unfolding meant_of meant
returns c =
    let a = c.args in (
      number_within a.least a.most (made_by a.kind) a.s.now (omega arith) c.if-s-least.false c.if-most-s.false,
      (omega arith, c.requires.1 _ c.if-s-least.false c.if-most-s.false),
    )
