-- `read_only_calls::refusal_of_other` meets its contract. Assumes nothing.
use native.Mathlib.Omega.{arith}
use Rattle.std.specs.Prelude.{Option}
use Rattle.std.proofs.Common.{subst}
use mathlib.Core.Path.{refl, ap, sym, ◌∙◌}
use Rattle.refusals.specs.declared.Refusal.{Refusal}
use Rattle.refusals.specs.Numbers.{number_or_0}
use Rattle.refusals.specs.laws.NumberLaws.{number_positive}
use Rattle.rules.specs.Rules.{call_or}
use Rattle.call_reader.specs.Meaning.{meant_of}
use Rattle.read_only.specs.ReadOnly.{takes_call}
use Rattle.read_only_calls.specs.Refusals.{form_number, Refuses}
use Rattle.read_only_calls.specs.laws.RefusalLaws.{nothing_refused, parsed_taken}
use Rattle.read_only_calls.proofs.refusal_of_other.Goals as goal

pub returns-in_err-parsed : goal.returns-in_err-parsed
unfolding meant_of
returns-in_err-parsed c =
    let s = c.args.call.now in
    subst (λ (o : Option Refusal). Refuses (number_or_0 o) s) (sym c.from_residual.ensures)
    (nothing_refused s c.in_err-parsed.ensures.0)

pub returns-then-takes : goal.returns-then-takes
unfolding meant_of
returns-then-takes c =
    let s = c.args.call.now in
    record {
      taken = λ _.
          ap (λ o. takes_call (call_or o)) (sym c.in_ok-parsed.ensures.0)
          ∙ parsed_taken c.in_ok-parsed.parsed s (sym c.takes.ensures ∙ c.if-takes.true);
      number = λ h. absurd (h refl);
    }

pub returns : goal.returns
unfolding meant_of
returns c = record {
  taken = λ z. absurd (omega (arith, z, number_positive c.form_refusal.result));
  number = λ _. c.form_refusal.ensures ∙ ap form_number c.in_ok-parsed.ensures.0;
}
