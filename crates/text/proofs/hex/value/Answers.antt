-- `text::hex::value` meets its contract, range by range.
-- Assumes nothing.
use Rattle.std.proofs.Common.{arith}
use Rattle.text.specs.laws.HexCases.{value_below, value_decimal, value_between, value_letter, value_above}
use Rattle.text.proofs.hex.value.Goals as goal

pub returns-in-48-to-57 : goal.returns-in-48-to-57
returns-in-48-to-57 c = value_decimal c.args.c (omega arith) (omega arith)

pub returns-in-97-to-102 : goal.returns-in-97-to-102
returns-in-97-to-102 c = value_letter c.args.c (omega arith) (omega arith)

pub returns-in_default : goal.returns-in_default
returns-in_default c = value_below c.args.c (omega arith)

pub returns-in_default-2 : goal.returns-in_default-2
returns-in_default-2 c = value_between c.args.c (omega arith) (omega arith)

pub returns-in_default-3 : goal.returns-in_default-3
returns-in_default-3 c = value_above c.args.c (omega arith)
