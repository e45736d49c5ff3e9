-- `image_reader::is_own_name` meets its contract. The invariant: what is a sibling with its name stands from k on.
-- Assumes nothing.
use Prim.Native.Nat.{ℕ, ◌<◌}
use Rattle.image_records.specs.Laid.{laid}
use Rattle.links.specs.Buckets.{Holds}
use Rattle.image_reader.specs.Judged.{node_on, Siblings}
use Rattle.image_reader.proofs.is_own_name.Given as goal

abbrev pub invariant-loop-k : goal.invariant-loop-k
invariant-loop-k l =
    (l.k < l.i) × ((j : ℕ) → j < l.i
    → Siblings (node_on (laid l.layout) l.image l.starts j) (node_on (laid l.layout) l.image l.starts l.i)
    → Holds l.names j l.k)

abbrev pub decreases-loop-k : goal.decreases-loop-k
decreases-loop-k l = l.k
