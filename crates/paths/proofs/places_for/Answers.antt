-- `paths::places_for` meets its contract. Assumes nothing.
use native.Mathlib.Omega.{arith}
use Prim.Native.Nat.{ℕ}
use lib.ListN.{get_or-replicate}
use Rattle.filesystem.specs.Tables.{NODES, node_at}
use Rattle.memory.specs.Layout.{mem_of}
use Rattle.tables.specs.View.{hash_of}
use Rattle.paths.proofs.places_for.Goals as goal

pub returns : goal.returns
unfolding hash_of
returns c k h =
    let a = c.args in
    rw (get_or-replicate {A = ℕ} NODES (hash_of (node_at (mem_of a.m.now).nodes k).parent) 0 0 (omega arith))
    (omega arith)
