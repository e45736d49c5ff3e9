-- `paths::walk_parent` meets its contract. The invariant: the whole walk is the walk from node d along what stands from
-- `at` on.
-- Assumes nothing.
use Prim.Native.Nat.{ℕ, ◌+◌, ◌≤◌, ◌<◌, ◌-◌}
use mathlib.Core.Path.{◌≡◌}
use mathlib.Core.List.{List}
use lib.ListN.{length, take, drop}
use Rattle.lists.specs.Search.{place}
use Rattle.filesystem.specs.Tables.{Node}
use Rattle.filesystem.specs.Paths.{split}
use Rattle.memory.specs.Layout.{mem_of}
use Rattle.paths.specs.Parts.{is_slash}
use Rattle.paths.specs.Walks.{placed, placed_from}
use Rattle.tables.specs.View.{FirstPlaces}
use Rattle.paths.proofs.walk_parent.Given as goal

-- the nodes
abbrev nodes_in : List ℕ → ℕ → List Node
nodes_in m n = take n (mem_of m).nodes

abbrev pub invariant-loop-end : goal.invariant-loop-end
invariant-loop-end l =
    (l.d < l.n)
    × (l.at ≤ l.end)
    × (l.end ≤ length l.path)
    × (l.end ≡ l.at + place is_slash (drop l.at l.path))
    × (placed (nodes_in l.m l.n) l.path ≡ placed_from (nodes_in l.m l.n) (length l.path) l.d (split (drop l.at l.path)))
    × FirstPlaces (mem_of l.m).nodes l.n l.firsts

abbrev pub decreases-loop-end : goal.decreases-loop-end
decreases-loop-end l = length l.path - l.end
