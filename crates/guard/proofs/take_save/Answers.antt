-- `guard::take_save` meets its contract. Assumes nothing.
use native.Mathlib.Omega.{arith}
use mathlib.Core.Path.{ap, refl}
use Rattle.configuration.specs.Delivered.{delivered}
use Rattle.guard.specs.laws.EntryLaws.{digest-delivered, width_delivered, save_turned, save_taken}
use Rattle.refusals.specs.Numbers.{number_or_0}
use Rattle.guard.proofs.take_save.Goals as goal

pub returns-in-Some : goal.returns-in-Some
returns-in-Some c =
    let a = c.args in
    record {
      saving = λ k. save_turned a.m.now a.image.now a.digest.now c.first_refusal.ensures _
          (ap number_or_0 c.in-Some.is);
      keeps_length = refl;
    }

pub returns : goal.returns
returns c =
    let a = c.args in record {
      saving = save_taken a.m.now a.image.now a.digest.now c.first_refusal.ensures
          (ap number_or_0 c.in_default.is) _ _ _ _
          (λ h. c.save.ensures.saves delivered digest-delivered width_delivered h);
      keeps_length = omega arith;
    }
