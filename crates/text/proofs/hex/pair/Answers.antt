-- `text::hex::pair` meets its contract.
-- Assumes nothing.
use Rattle.std.proofs.Common.{◌<◌, rules}
use Rattle.text.specs.Hex.{pair_of}
use Rattle.text.specs.laws.HexLaws.{number_small}
use Rattle.text.proofs.hex.pair.Goals as goal

pub overflow_mul-result : goal.overflow_mul-result
overflow_mul-result c =
    let high : c.unwrap_or.result < 16 = rw (c.unwrap_or.ensures, c.value.ensures) (number_small c.args.high) in
    search rules

pub overflow_add-result : goal.overflow_add-result
overflow_add-result c =
    let high : c.unwrap_or.result < 16 = rw (c.unwrap_or.ensures, c.value.ensures) (number_small c.args.high) in
    let low : c.unwrap_or-2.result < 16 = rw (c.unwrap_or-2.ensures, c.value-2.ensures) (number_small c.args.low) in
    search rules

pub returns : goal.returns
unfolding pair_of
returns c = rw (c.unwrap_or.ensures, c.value.ensures, c.unwrap_or-2.ensures, c.value-2.ensures)
