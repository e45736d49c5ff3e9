-- `compression::words::ch` meets its contract: the short form is the standard's.
-- Assumes nothing.
use Rattle.std.proofs.Common.{arith}
use Rattle.compression.proofs.Bits.{ch_short}
use Rattle.compression.proofs.words.ch.Goals as goal

pub returns : goal.returns
returns c = ch_short 32 c.args.x c.args.y c.args.z (omega arith) (omega arith) (omega arith)
