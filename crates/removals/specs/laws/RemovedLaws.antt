-- A node that was taken out.
-- Assumes nothing.
use Rattle.std.specs.Prelude.{◌≡◌, List, ℕ, ◌<◌, ◌≤◌}
use Rattle.std.proofs.Math.Path.{ap}
use Rattle.std.proofs.Common.{arith}
use Rattle.lists.specs.Search.{without}
use Rattle.filesystem.specs.Tables.{Tables, PAGES, page_total}
use Rattle.rules.specs.Requests.{asked, removing}
use Rattle.rules.specs.Skeleton.{Config}
use Rattle.rules.specs.Valid.{RemovingFits}
use Rattle.machine.specs.Machine.{State, guard as digest_store}
use Rattle.memory.specs.Layout.{mem_of}
use Rattle.tables.specs.View.{view_of, without_node}
use Rattle.guard_state.specs.Calls.{REMOVING}
use Rattle.guard_state.specs.declared.Guard.{Guard}
use Rattle.guard_state.specs.State.{numbers_of, state_in, state_of}
use Rattle.guard_state.specs.Waits.{ends, resting_state}
use Rattle.guard_state.specs.laws.LoadedLaws.{nodes-count}
use Rattle.filesystem.specs.Sound.{to_sound}
use Rattle.machine.specs.Consistent.{Consistent}
use Rattle.guard_state.specs.laws.PendingLaws.{remove_pending}
use Rattle.replies.specs.laws.PremiseLaws.{known}

-- The state over tables that changed, from the numbers that were loaded.
module _ (c : Config) (m : List ℕ) (g : Guard) (e : g ≡ numbers_of (mem_of m).head) where
  abbrev here : State (digest_store c)
  here = state_of c m

  pub remove-ends : resting_state c (without_node g.node (view_of g.nodes g.opens (mem_of m)))
      ≡ ends c here (record {
        nodes = without (numbers_of (mem_of m).head).node here.skeleton.tables.nodes;
        opens =
            here.skeleton.tables.opens;
      }) (without (numbers_of (mem_of m).head).node here.contents)
  unfolding resting_state ends state_of state_in view_of
  remove-ends = ap (λ (x : Guard). resting_state c (without_node x.node (view_of x.nodes x.opens (mem_of m)))) e

-- what the tables have for the pending call
module _ (c : Config) (m : List ℕ) (h : Consistent c (state_of c m)) where
  abbrev g : Guard
  g = numbers_of (mem_of m).head

  abbrev t : Tables
  t = (state_of c m).skeleton.tables

  pub remove_premises : g.call ≡ REMOVING → (g.node < g.nodes) × (page_total t.nodes ≤ PAGES)
  remove_premises e =
      let f : RemovingFits t.nodes t.opens g.node = known c m h (asked (removing g.node))
      (remove_pending c m e) in (
        omega (arith, f.known, nodes-count c m),
        (to_sound c.width t.nodes
            h.holds.valid.tables.nodes_valid.sound).pages,
      )
