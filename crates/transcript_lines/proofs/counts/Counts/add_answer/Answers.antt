-- `counts::Counts::add_answer` meets its contract. Assumes nothing.
use Rattle.std.proofs.Common.{refl}
use Rattle.lists.specs.Pick.{pick}
use Rattle.transcript_lines.specs.Counted.{one_more, one_more_unless}
use Rattle.transcript_lines.proofs.counts.Counts.add_answer.Goals as goal

pub returns-then-not-is_same : goal.returns-then-not-is_same
unfolding one_more one_more_unless pick
returns-then-not-is_same c =
    (refl, c.saturating_add-self.ensures, rw c.if-not-is_same.true c.saturating_add-self-then-not-is_same.ensures)

pub returns-else-not-is_same : goal.returns-else-not-is_same
unfolding one_more one_more_unless pick
returns-else-not-is_same c = (refl, c.saturating_add-self.ensures, rw c.if-not-is_same.false refl)
