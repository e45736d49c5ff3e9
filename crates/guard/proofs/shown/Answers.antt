-- `guard::shown` meets its contract. Assumes nothing.
use mathlib.Core.Path.{ap, sym, ◌∙◌}
use lib.IntN.{pos}
use Rattle.outcomes.specs.Values.{kind_of, value_of, length_of}
use Rattle.guard.specs.declared.GuardOutcome.{GuardOutcome}
use Rattle.guard.specs.Promise.{shown_as}
use Rattle.guard.proofs.shown.Goals as goal

pub returns-in-Done : goal.returns-in-Done
unfolding shown_as kind_of value_of length_of
returns-in-Done c = sym (ap shown_as c.in-Done.is)

pub returns-in-Ask : goal.returns-in-Ask
unfolding shown_as kind_of value_of length_of
returns-in-Ask c = sym (ap shown_as c.in-Ask.is)

pub returns-in-Refused : goal.returns-in-Refused
unfolding shown_as kind_of value_of length_of
returns-in-Refused c =
    ap (λ n. record { kind = pos 2; number = n; length = 0 }) c.number.ensures ∙ sym (ap shown_as c.in-Refused.is)

pub returns-in-Stopped : goal.returns-in-Stopped
unfolding shown_as kind_of value_of length_of
returns-in-Stopped c =
    ap (λ n. record { kind = pos 3; number = n; length = 0 }) c.number-in-Stopped.ensures
    ∙ sym (ap shown_as c.in-Stopped.is)
