-- `compression::next_hash` meets its contract.
-- Assumes nothing.
use Rattle.compression.proofs.Windows.{compressed_rolling}
use Rattle.compression.proofs.next_hash.Goals as goal

pub returns : goal.returns
returns c =
    compressed_rolling _ _ _
    c.load.ensures
    c.sixteen_rounds-first.ensures
    c.sixteen_rounds-second.ensures
    c.sixteen_rounds-third.ensures
    c.sixteen_rounds-last.ensures
    c.state_sum.ensures
