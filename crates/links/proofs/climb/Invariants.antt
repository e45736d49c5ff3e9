-- `links::climb` meets its contract. The invariant says how far the climb has come. Assumes nothing.
use Prim.Native.Nat.{◌-◌, ◌≤◌, ◌<◌}
use Rattle.filesystem.specs.Tables.{PATH_BYTES}
use Rattle.links.specs.laws.ClimbLaws.{Onward}
use Rattle.links.proofs.climb.Given as goal

abbrev pub invariant-loop-a : goal.invariant-loop-a
invariant-loop-a l = (l.a < l.n) × (l.total ≤ PATH_BYTES) × Onward l.to l.far l.k l.a l.total

abbrev pub decreases-loop-a : goal.decreases-loop-a
decreases-loop-a l = 256 - l.total
