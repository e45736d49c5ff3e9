-- The facts of a pending call, from a consistent state.
-- Assumes nothing.
use Rattle.std.specs.Prelude.{◌≡◌, List, ℕ}
use Rattle.std.proofs.Common.{subst}
use Rattle.filesystem.specs.Tables.{Tables}
use Rattle.memory.specs.Layout.{mem_of}
use Rattle.rules.specs.Requests.{Pending}
use Rattle.rules.specs.Skeleton.{Config}
use Rattle.rules.specs.Valid.{PendingFits}
use Rattle.machine.specs.Consistent.{Consistent}
use Rattle.guard_state.specs.declared.Guard.{Guard}
use Rattle.guard_state.specs.State.{numbers_of, state_of}

module _ (c : Config) (m : List ℕ) (h : Consistent c (state_of c m)) where
  abbrev g : Guard
  g = numbers_of (mem_of m).head

  abbrev t : Tables
  t = (state_of c m).skeleton.tables

  -- which call is pending is known by its number
  pub known : (p : Pending) → (state_of c m).skeleton.pending ≡ p → PendingFits t.nodes t.opens p
  known p e = subst (PendingFits t.nodes t.opens) e h.holds.valid.pending
