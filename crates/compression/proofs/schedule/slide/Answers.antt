-- `compression::schedule::slide` meets its contract.
-- Assumes nothing.
use Rattle.compression.specs.Windows.{slid}
use Rattle.compression.proofs.schedule.slide.Goals as goal

pub returns : goal.returns
unfolding slid
returns c = cc
