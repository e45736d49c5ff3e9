-- `counts::Counts::add_list` meets its contract. Assumes nothing.
use Rattle.std.proofs.Common.{refl}
use Rattle.transcript_lines.specs.Counted.{one_more}
use Rattle.transcript_lines.proofs.counts.Counts.add_list.Goals as goal

pub returns : goal.returns
unfolding one_more
returns c = (c.saturating_add-self.ensures, refl, refl)
