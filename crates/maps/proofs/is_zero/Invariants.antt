-- `maps::is_zero` meets its contract. The invariant says what remains to be done. Assumes nothing.
use mathlib.Core.Path.{◌≡◌}
use Prim.Native.Nat.{◌*◌}
use lib.Dec.{eqb}
use lib.ListN.{drop}
use Rattle.lists.specs.Search.{every}
use Rattle.maps.proofs.is_zero.Given as goal

abbrev pub invariant-loop-k : goal.invariant-loop-k
invariant-loop-k l = every (eqb 0) (drop (32 * l.k) l.x) ≡ every (eqb 0) l.x
