-- `text::decimal::read` meets its contract. What is left is read on from n.
-- Assumes nothing.
use Rattle.std.proofs.Common.{◌≡◌, ◌≤◌, drop}
use Rattle.text.specs.Decimal.{read_from, read_decimal}
use Rattle.text.proofs.decimal.read.Given as goal

abbrev pub invariant-loop-c : goal.invariant-loop-c
invariant-loop-c l = (l.n ≤ 999999999) × (read_decimal l.text ≡ read_from l.n (drop l.c-index l.text))
