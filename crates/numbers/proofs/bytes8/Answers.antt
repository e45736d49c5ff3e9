-- `numbers::bytes8` meets its contract. Assumes nothing.
use mathlib.Core.Path.{◌∙◌}
use Rattle.numbers.proofs.Words.{encode_8}
use Rattle.numbers.proofs.bytes8.Goals as goal

pub returns : goal.returns
returns c = c.to_le_bytes.ensures ∙ encode_8 c.args.x
