-- `numbers::u32_at` meets its contract. Assumes nothing.
use Rattle.std.proofs.Common.{arith}
use Rattle.numbers.proofs.Words.{sum_of_four}
use Rattle.numbers.proofs.u32_at.Goals as goal

pub returns : goal.returns
returns c = omega (arith, c.from_le_bytes.ensures, sum_of_four c.args.at c.args.b.now)
