-- A call's bytes from a place on, as the code lends them.
-- Assumes nothing.
use Rattle.std.specs.Prelude.{◌≡◌, List, ℕ, ◌-◌, length, take, drop}
use Rattle.std.proofs.Common.{arith, length-drop, take_all}

pub rest : (b : List ℕ) (start : ℕ) → take (length b - start) (drop start b) ≡ drop start b
rest b start = take_all (length b - start) (drop start b) (omega (arith, length-drop start b))
