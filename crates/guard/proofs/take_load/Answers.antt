-- `guard::take_load` meets its contract. Assumes nothing.
use native.Mathlib.Omega.{arith}
use mathlib.Core.Path.{ap, refl}
use Rattle.configuration.specs.Delivered.{delivered}
use Rattle.guard.specs.laws.EntryLaws.{digest-delivered, width_delivered, load-turned, load-taken}
use Rattle.refusals.specs.Numbers.{number_or_0}
use Rattle.guard.proofs.take_load.Goals as goal

pub returns-in-Some : goal.returns-in-Some
returns-in-Some c =
    let a = c.args in
    record {
      steps = load-turned a.m.now a.image.now a.digest.now c.first_refusal.ensures _ (ap number_or_0 c.in-Some.is);
      keeps_length = refl;
    }

pub returns : goal.returns
returns c =
    let a = c.args in record {
      steps = load-taken a.m.now a.image.now a.digest.now c.first_refusal.ensures (ap number_or_0 c.in_default.is) _ _
          (c.load.ensures.loads delivered digest-delivered width_delivered);
      keeps_length = omega arith;
    }
