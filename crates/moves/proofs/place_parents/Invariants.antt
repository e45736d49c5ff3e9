-- `moves::place_parents` meets its contract. The invariant: the parents of the nodes before k are placed, and whatever
-- the memory holds, these lead to places of nodes. Assumes nothing.
use mathlib.Core.Bool.{true}
use mathlib.Core.Path.{◌≡◌}
use Prim.Native.Nat.{ℕ, ◌<◌}
use lib.ListN.{take}
use Rattle.filesystem.specs.Image.{sound_nodes}
use Rattle.filesystem.specs.Tables.{node_at}
use Rattle.memory.specs.Layout.{mem_of}
use Rattle.links.specs.Parents.{Placed}
use Rattle.moves.specs.laws.MoveLaws.{Joined}
use Rattle.moves.proofs.place_parents.Given as goal

abbrev pub invariant-loop-k : goal.invariant-loop-k
invariant-loop-k l = (0 < l.k) × Joined l.to l.far l.n l.k
    × ((w : ℕ) → sound_nodes w (take l.n (mem_of l.m).nodes) ≡ true
    → Placed (node_at (take l.n (mem_of l.m).nodes)) l.to l.far l.n l.k)
