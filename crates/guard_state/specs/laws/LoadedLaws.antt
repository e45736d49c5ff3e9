-- The numbers that were loaded: within the tables' limits, and those of the state's tables.
-- Assumes nothing.
use Rattle.std.specs.Prelude.{◌≡◌, refl, List, ℕ, ◌<◌, ◌≤◌, take}
use Rattle.std.proofs.Math.Path.{ap, sym}
use Rattle.std.proofs.Common.{◌∙◌, arith}
use Rattle.std.proofs.Math.ListN.{length}
use Rattle.filesystem.specs.Tables.{NODES, Tables, node_at, open_at}
use Rattle.memory.specs.Layout.{mem_of, open_rows}
use Rattle.rules.specs.Skeleton.{Config}
use Rattle.tables.specs.View.{tables_in, view_of}
use Rattle.tables.specs.laws.RowsInUse.{count-nodes, count-opens, node_front_lem, open_front}
use Rattle.guard_state.specs.declared.Guard.{Guard}
use Rattle.guard_state.specs.State.{numbers_of, state_in, state_of}

module _ (m : List ℕ) (g : Guard) (e : g ≡ numbers_of (mem_of m).head) where
  pub counts_fit : (g.nodes ≤ NODES) × (g.opens ≤ open_rows)
  unfolding numbers_of
  counts_fit =
      let n : g.nodes ≡ (numbers_of (mem_of m).head).nodes = ap (λ (x : Guard). x.nodes) e in
      let o : g.opens ≡ (numbers_of (mem_of m).head).opens = ap (λ (x : Guard). x.opens) e in
      (omega (arith, n), omega (arith, o))

  pub tables-loaded : (c : Config) → tables_in g.nodes g.opens (mem_of m) ≡ (state_of c m).skeleton.tables
  unfolding state_of state_in tables_in view_of
  tables-loaded c = ap (λ (x : Guard). tables_in x.nodes x.opens (mem_of m)) e

  pub nodes-loaded : (c : Config) → length (state_of c m).skeleton.tables.nodes ≡ g.nodes
  unfolding tables_in
  nodes-loaded c = ap (λ (x : Tables). length x.nodes) (sym (tables-loaded c))
      ∙ count-nodes m g.nodes counts_fit.0

-- the rows in use, by the numbers that the header holds
module _ (m : List ℕ) (c : Config) where
  pub node-loaded : (n k : ℕ) → n ≡ (numbers_of (mem_of m).head).nodes → node_at (take n (mem_of m).nodes) k ≡ node_at
      (state_of c m).skeleton.tables.nodes k
  unfolding state_of state_in view_of
  node-loaded n k e = ap (λ (i : ℕ). node_at (take i (mem_of m).nodes) k) e

  pub open_loaded : (o : ℕ) → o < (numbers_of (mem_of m).head).opens
      → open_at (mem_of m).opens o ≡ open_at (state_of c m).skeleton.tables.opens o
  unfolding state_of state_in view_of
  open_loaded o h = sym (open_front (numbers_of (mem_of m).head).opens (mem_of m).opens o h)

  pub node-there : (k : ℕ) → k < (numbers_of (mem_of m).head).nodes
      → node_at (mem_of m).nodes k ≡ node_at (state_of c m).skeleton.tables.nodes k
  unfolding state_of state_in view_of
  node-there k h = sym (node_front_lem (numbers_of (mem_of m).head).nodes (mem_of m).nodes k h)

-- how many rows the tables have
module _ (c : Config) (m : List ℕ) where
  pub nodes-count : length (state_of c m).skeleton.tables.nodes ≡ (numbers_of (mem_of m).head).nodes
  nodes-count = nodes-loaded m (numbers_of (mem_of m).head) refl c

  pub opens-count : length (state_of c m).skeleton.tables.opens ≡ (numbers_of (mem_of m).head).opens
  unfolding state_of state_in view_of
  opens-count = count-opens m (numbers_of (mem_of m).head).opens (counts_fit m (numbers_of (mem_of m).head) refl).1
