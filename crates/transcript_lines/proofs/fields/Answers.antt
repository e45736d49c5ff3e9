-- `transcript_lines::fields` meets its contract. Assumes nothing.
use Rattle.std.proofs.Common.{sym, ◌∙◌}
use Rattle.transcript_lines.specs.laws.FieldLaws.{field_found, field_missed}
use Rattle.transcript_lines.proofs.fields.Goals as goal

pub returns-in-Some-clause-value : goal.returns-in-Some-clause-value
returns-in-Some-clause-value c = field_found _ _ (sym c.blank_in.ensures ∙ c.in-Some.is)

pub returns-in-None-clause-value : goal.returns-in-None-clause-value
returns-in-None-clause-value c = field_missed _ (sym c.blank_in.ensures ∙ c.in-None.is)
