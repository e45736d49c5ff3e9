-- `transcript_lines::first_two` meets its contract. Assumes nothing.
use Rattle.std.proofs.Common.{◌∙◌}
use Rattle.transcript_lines.specs.laws.FieldLaws.{two_taken}
use Rattle.transcript_lines.proofs.first_two.Goals as goal

pub returns : goal.returns
returns c =
    let f = c.fields.ensures.value in
    c.first.ensures.0 ∙ two_taken _ _ _ _ f.0 f.1 c.fields-2.ensures.value.0
