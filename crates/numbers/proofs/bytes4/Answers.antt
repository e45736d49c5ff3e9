-- `numbers::bytes4` meets its contract. Assumes nothing.
use mathlib.Core.Path.{◌∙◌}
use Rattle.numbers.proofs.Words.{encode_4}
use Rattle.numbers.proofs.bytes4.Goals as goal

pub returns : goal.returns
returns c = c.to_le_bytes.ensures ∙ encode_4 c.args.x
