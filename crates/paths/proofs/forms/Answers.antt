-- `paths::forms` meets its contract. Assumes nothing.
use mathlib.Core.Path.{ap, sym, ◌∙◌}
use Rattle.std.specs.Prelude.{Err}
use Rattle.std.specs.Result.{result_and}
use Rattle.paths.specs.laws.FormAnswers.{worse_on, worse_first, worse_too_long}
use Rattle.paths.specs.declared.PathFault.TheVariants.{TooLong}
use Rattle.paths.proofs.forms.Goals as goal

pub returns-in-Ok : goal.returns-in-Ok
returns-in-Ok c = c.form-in-Ok.ensures ∙ worse_on _ c.in-Ok.ensures

pub returns-in-Err-TooLong : goal.returns-in-Err-TooLong
returns-in-Err-TooLong c =
    c.and.ensures ∙ ap (λ g. result_and g (Err TooLong)) c.form-in-Err-TooLong.ensures
    ∙ worse_too_long _ (ap Err (sym c.in-Err-TooLong.field-0-is) ∙ c.in-Err-TooLong.ensures)

pub returns-in-Err-Malformed : goal.returns-in-Err-Malformed
returns-in-Err-Malformed c = worse_first _ (ap Err (sym c.in-Err-Malformed.field-0-is) ∙ c.in-Err-Malformed.ensures)
