-- `read_only_calls::form_refusal` meets its contract. Assumes nothing.
use mathlib.Core.Path.{◌≡◌, refl, ap, sym, ◌∙◌}
use Prim.Native.Nat.{ℕ}
use Rattle.call_reader.specs.declared.ParsedCall.{ParsedCall}
use Rattle.call_reader.specs.declared.ParsedCall.TheVariants.{ByPath, Close, Seek, Read, Write, Truncate}
use Rattle.call_reader.specs.declared.ParsedCall.TheVariants.{Map, Unmap, Rename}
use Rattle.call_reader.specs.Meaning.{meant}
use Rattle.read_only_calls.specs.Refusals.{takes_parsed, number_of_form, form_number}
use Rattle.read_only_calls.specs.laws.RefusalLaws.{NoPath, other_refused, path_refused, rename_refused}
use Rattle.read_only_calls.proofs.form_refusal.Goals as goal

-- a call with no path
no_path : (p : ParsedCall) → ((k n start : ℕ) → p ≡ ByPath k n start → ⊥) → ((second : ℕ) → p ≡ Rename second → ⊥)
    → NoPath p
no_path (ByPath k n start) h r = h k n start refl
no_path (Close x) h r = tt
no_path (Seek x n) h r = tt
no_path (Read x n) h r = tt
no_path (Write x start) h r = tt
no_path (Truncate x n) h r = tt
no_path (Map n) h r = tt
no_path (Unmap a) h r = tt
no_path (Rename second) h r = r second refl

pub returns-in-ByPath : goal.returns-in-ByPath
unfolding takes_parsed
returns-in-ByPath c =
    let s = c.args.call.now in
    let e = c.in-ByPath.is in
    c.refusal_of.ensures ∙ ap number_of_form c.form.ensures
    ∙ path_refused _ _ (sym (ap takes_parsed e) ∙ c.requires.0) _ s
    ∙ sym (ap (λ (z : ParsedCall). form_number (meant z s)) e)

pub returns-in-Rename : goal.returns-in-Rename
returns-in-Rename c =
    let s = c.args.call.now in
    c.refusal_of-in-Rename.ensures ∙ ap number_of_form c.forms.ensures
    ∙ rename_refused _ s ∙ sym (ap (λ (z : ParsedCall). form_number (meant z s)) c.in-Rename.is)

pub returns-in_default : goal.returns-in_default
returns-in_default c =
    other_refused c.args.p c.args.call.now c.requires.0
    (no_path c.args.p c.in_default.not-ByPath c.in_default.not-Rename)
