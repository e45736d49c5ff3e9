-- `tables::first_places` meets its contract. The loop's invariant: a place by the hash of each parent from k on is not
-- behind
-- its children. Assumes nothing.
use Prim.Native.Nat.{ℕ, ◌<◌, ◌≤◌}
use mathlib.Core.Path.{◌≡◌}
use lib.ListN.{length, get_or}
use Rattle.filesystem.specs.Tables.{NODES, node_at}
use Rattle.memory.specs.Layout.{mem_of}
use Rattle.tables.specs.View.{hash_of}
use Rattle.tables.proofs.first_places.Given as goal

abbrev pub invariant-loop-k : goal.invariant-loop-k
invariant-loop-k l =
    (l.k ≤ l.n) × (length l.firsts ≡ NODES)
    × ((j : ℕ) → l.k ≤ j → j < l.n → get_or l.firsts (hash_of (node_at (mem_of l.m).nodes j).parent) 0 ≤ j)
