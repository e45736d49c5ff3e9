-- `tables::place_below` meets its contract. Assumes nothing.
use Rattle.std.proofs.Common.{rules, ◌≡◌, arith}
use Rattle.std.proofs.Math.Path.{sym}
use Rattle.tables.specs.laws.FoundLaws.{found_at, found_behind}
use Rattle.tables.proofs.place_below.Goals as goal

pub returns-then-place-n : goal.returns-then-place-n
returns-then-place-n c = sym (found_at _ _ c.if-place-n.true)

pub returns-else-place-n : goal.returns-else-place-n
returns-else-place-n c = sym (found_behind _ _ (omega (arith, c.if-place-n.false)))
