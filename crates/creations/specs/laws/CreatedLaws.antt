-- A node that was made.
-- Assumes nothing.
use Rattle.std.specs.Prelude.{◌≡◌, List, [], ◌∷◌, ◌++◌, ℕ, ◌<◌, ◌≤◌, length, take, ◌⊎◌}
use Rattle.std.proofs.Math.Path.{ap}
use Rattle.std.proofs.Common.{arith, inl, inr}
use Rattle.filesystem.specs.Tables.{Node, Tables, NODES, NAME_BYTES}
use Rattle.rules.specs.Requests.{asked, creating}
use Rattle.rules.specs.Skeleton.{Config}
use Rattle.rules.specs.Valid.{CreatingFits}
use Rattle.machine.specs.Machine.{State, guard as digest_store}
use Rattle.memory.specs.Layout.{mem_of, memory_size}
use Rattle.tables.specs.View.{view_of, with_node}
use Rattle.guard_state.specs.Calls.{CREATING}
use Rattle.guard_state.specs.declared.Guard.{Guard}
use Rattle.guard_state.specs.State.{numbers_of, state_in, state_of}
use Rattle.guard_state.specs.Waits.{ends, resting_state}
use Rattle.guard_state.specs.laws.LoadedLaws.{nodes-count}
use Rattle.machine.specs.Consistent.{Consistent}
use Rattle.guard_state.specs.laws.PendingLaws.{create_pending}
use Rattle.guard_state.specs.laws.Ranges.{bytes-length}
use Rattle.replies.specs.laws.PremiseLaws.{known}

-- a kind is one byte
kind_small : (k : ℕ) → (k ≡ 1) ⊎ (k ≡ 2) → k < 256
kind_small k (inl e) = omega arith
kind_small k (inr e) = omega arith

-- The state over tables that changed, from the numbers that were loaded.
module _ (c : Config) (m : List ℕ) (g : Guard) (e : g ≡ numbers_of (mem_of m).head) where
  abbrev here : State (digest_store c)
  here = state_of c m

  pub create-ends : (x : Node) → resting_state c (with_node x (view_of g.nodes g.opens (mem_of m)))
      ≡ ends c here (record {
        nodes = here.skeleton.tables.nodes ++ (x ∷ []);
        opens = here.skeleton.tables.opens;
      }) (here.contents ++ ([] ∷ []))
  unfolding resting_state ends state_of state_in view_of
  create-ends x = ap (λ (z : Guard). resting_state c (with_node x (view_of z.nodes z.opens (mem_of m)))) e

-- what the tables have for the pending call
module _ (c : Config) (m : List ℕ) (h : Consistent c (state_of c m)) where
  abbrev g : Guard
  g = numbers_of (mem_of m).head

  abbrev t : Tables
  t = (state_of c m).skeleton.tables

  pub create_premises : memory_size ≤ length m → g.call ≡ CREATING → (g.nodes < NODES) × (g.bytes ≤ NAME_BYTES)
      × (g.kind < 256) × (g.mode < 256)
  create_premises long e =
      let f : CreatingFits t.nodes t.opens g.parent g.kind g.mode (take g.bytes (mem_of m).staged) =
      known c m h (asked (creating g.parent g.kind g.mode (take g.bytes (mem_of m).staged)))
      (create_pending c m e) in (
        omega (arith, f.room, nodes-count c m),
        omega (arith, f.short, bytes-length m long),
        kind_small g.kind
            f.kinds,
        omega (arith, f.modes),
      )
