-- `compression::words::maj` meets its contract: the short form is the standard's.
-- Assumes nothing.
use Rattle.std.proofs.Common.{arith}
use Rattle.compression.proofs.Bits.{maj_short}
use Rattle.compression.proofs.words.maj.Goals as goal

pub returns : goal.returns
returns c = maj_short 32 c.args.x c.args.y c.args.z (omega arith) (omega arith) (omega arith)
