-- A file that was opened, or closed.
-- Assumes nothing.
use Rattle.std.specs.Prelude.{◌≡◌, List, [], ◌∷◌, ◌++◌, ℕ, ◌<◌}
use Rattle.std.proofs.Math.Path.{ap}
use Rattle.std.proofs.Common.{arith}
use Rattle.lists.specs.Search.{without}
use Rattle.filesystem.specs.Tables.{OpenFile, Tables}
use Rattle.rules.specs.Requests.{asked, opening, closing}
use Rattle.rules.specs.Skeleton.{Config}
use Rattle.rules.specs.Valid.{OpeningFits}
use Rattle.machine.specs.Machine.{State, guard as digest_store}
use Rattle.memory.specs.Layout.{mem_of, open_rows}
use Rattle.tables.specs.View.{view_of, with_open, without_open}
use Rattle.guard_state.specs.Calls.{OPENING, CLOSING}
use Rattle.guard_state.specs.declared.Guard.{Guard}
use Rattle.guard_state.specs.State.{numbers_of, state_in, state_of}
use Rattle.guard_state.specs.Waits.{ends, resting_state}
use Rattle.guard_state.specs.laws.LoadedLaws.{nodes-count, opens-count}
use Rattle.machine.specs.Consistent.{Consistent}
use Rattle.guard_state.specs.laws.PendingLaws.{open_pending, close_pending}
use Rattle.replies.specs.laws.PremiseLaws.{known}

-- The state over tables that changed, from the numbers that were loaded.
module _ (c : Config) (m : List ℕ) (g : Guard) (e : g ≡ numbers_of (mem_of m).head) where
  abbrev here : State (digest_store c)
  here = state_of c m

  pub open_ends : (x : OpenFile) → resting_state c (with_open x (view_of g.nodes g.opens (mem_of m)))
      ≡ ends c here (record {
        nodes = here.skeleton.tables.nodes;
        opens = here.skeleton.tables.opens
            ++ (x ∷ []);
      }) here.contents
  unfolding resting_state ends state_of state_in view_of
  open_ends x = ap (λ (z : Guard). resting_state c (with_open x (view_of z.nodes z.opens (mem_of m)))) e

  pub close-ends : resting_state c (without_open g.opened (view_of g.nodes g.opens (mem_of m)))
      ≡ ends c here (record {
        nodes = here.skeleton.tables.nodes;
        opens = without (numbers_of (mem_of m).head).opened
            here.skeleton.tables.opens;
      }) here.contents
  unfolding resting_state ends state_of state_in view_of
  close-ends = ap (λ (x : Guard). resting_state c (without_open x.opened (view_of x.nodes x.opens (mem_of m)))) e

-- what the tables have for the pending call
module _ (c : Config) (m : List ℕ) (h : Consistent c (state_of c m)) where
  abbrev g : Guard
  g = numbers_of (mem_of m).head

  abbrev t : Tables
  t = (state_of c m).skeleton.tables

  pub open_premises : g.call ≡ OPENING → (g.node < g.nodes) × (g.opens < open_rows) × (g.rights < 256)
  open_premises e =
      let f : OpeningFits t.nodes t.opens g.node g.rights = known c m h
      (asked (opening g.node g.rights)) (open_pending c m e) in
      (omega (arith, f.known, nodes-count c m), omega (arith, f.room, opens-count c m), omega (arith, f.rights_fit))

  pub close_premises : g.call ≡ CLOSING → g.opened < g.opens
  close_premises e = omega (arith, known c m h (asked (closing g.opened)) (close_pending c m e), opens-count c m)
