-- `image_reader::find_id` meets its contract. The invariant: what has the id stands from k on. Assumes nothing.
use mathlib.Core.Path.{◌≡◌}
use Prim.Native.Nat.{ℕ, ◌<◌}
use Rattle.links.specs.Buckets.{Holds}
use Rattle.image_reader.specs.Judged.{id_at}
use Rattle.image_reader.proofs.find_id.Given as goal

abbrev pub invariant-loop-k : goal.invariant-loop-k
invariant-loop-k l = (l.k < l.i)
    × ((j : ℕ) → j < l.i → id_at l.layout.id_bytes l.image l.starts j ≡ l.id → Holds l.ids j l.k)

abbrev pub decreases-loop-k : goal.decreases-loop-k
decreases-loop-k l = l.k
