-- `guard::is_short` meets its contract. Assumes nothing.
use native.Mathlib.Omega.{arith}
use mathlib.Core.Path.{◌∙◌}
use Rattle.std.proofs.Common.{lt-ltb}
use Rattle.guard.specs.laws.EventLaws.{answer-short, answer-long}
use Rattle.guard.proofs.is_short.Goals as goal

pub returns-then-answer-lt-ANSWER_LENGTH : goal.returns-then-answer-lt-ANSWER_LENGTH
returns-then-answer-lt-ANSWER_LENGTH c =
    let a = c.args in
    let h = c.if-answer-lt-ANSWER_LENGTH.true in
    lt-ltb a.answer 9690 h ∙ answer-short a.answer a.request h

pub returns-else-answer-lt-ANSWER_LENGTH : goal.returns-else-answer-lt-ANSWER_LENGTH
returns-else-answer-lt-ANSWER_LENGTH c =
    let a = c.args in answer-long a.answer a.request (omega (arith, c.if-answer-lt-ANSWER_LENGTH.false))
