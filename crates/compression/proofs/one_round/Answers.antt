-- `compression::one_round` meets its contract.
-- Assumes nothing.
use Rattle.compression.specs.Compression.{round}
use Rattle.compression.proofs.one_round.Goals as goal

pub returns : goal.returns
unfolding round
returns c = cc
