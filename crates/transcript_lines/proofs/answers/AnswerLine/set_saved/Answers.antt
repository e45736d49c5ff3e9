-- `answers::AnswerLine::set_saved` meets its contract. Assumes nothing.
use Rattle.std.specs.Prelude.{List, ℕ}
use Rattle.std.proofs.Common.{ap, ◌∙◌}
use Rattle.transcript_lines.specs.Said.{with_digest}
use Rattle.transcript_lines.specs.laws.SaidLaws.{saved_done, saved_else}
use Rattle.transcript_lines.proofs.answers.AnswerLine.set_saved.Goals as goal

pub returns-in-Done : goal.returns-in-Done
returns-in-Done c =
    c.put_digest.ensures ∙ ap (λ (z : List ℕ). with_digest z c.args.digest) c.set_outcome.ensures
    ∙ saved_done _ _ _ c.in-Done.is _ _

pub returns-in_default : goal.returns-in_default
returns-in_default c = c.set_outcome.ensures ∙ saved_else _ c.in_default.not-Done _ _
