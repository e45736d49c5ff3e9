-- `guard::settle` meets its contract. Assumes nothing.
use native.Mathlib.Omega.{arith}
use mathlib.Core.Path.{◌≡◌, refl, ap, sym, ◌∙◌}
use Rattle.configuration.specs.Delivered.{delivered}
use Rattle.refusals.specs.declared.StopReason.{StopReason}
use Rattle.outcomes.specs.declared.Outcome.{Outcome}
use Rattle.outcomes.specs.declared.Outcome.TheVariants.{Done, Ask, Refused, Stopped}
use Rattle.outcomes.specs.Sent.{settled}
use Rattle.guard.specs.Promise.{GuardState, held}
use Rattle.guard.proofs.settle.Goals as goal

-- the variants that are left: nothing is to be carried out
other : (o : Outcome) → ((reason : StopReason) → o ≡ Stopped reason → ⊥) → (s : GuardState) → s ≡ settled delivered o s
unfolding settled
other (Done n l) h s = refl
other (Ask l) h s = refl
other (Refused n) h s = refl
other (Stopped n) h s = absurd (h n refl)

pub returns-in_default : goal.returns-in_default
returns-in_default c =
    let a = c.args in record {
      value = (refl, other a.o c.in_default.not-Stopped (held a.m.now));
      keeps_length = refl;
    }

pub returns : goal.returns
unfolding settled
returns c =
    let a = c.args in
    let e = sym c.in-Stopped.is in
    record {
      value = (e, c.stop.ensures.0 delivered ∙ ap (λ (x : Outcome). settled delivered x (held a.m.now)) e);
      keeps_length = omega arith;
    }
