-- `compression::schedule::mix` meets its contract.
-- Assumes nothing.
use Rattle.compression.specs.Windows.{mixed}
use Rattle.compression.proofs.schedule.mix.Goals as goal

pub returns : goal.returns
unfolding mixed
returns c = cc
