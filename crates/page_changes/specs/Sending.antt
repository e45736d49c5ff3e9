-- A change that is pending and has sent its pages before i; and that it can end when it has sent them all.
--   Sending c m q i    the change q is pending in m and has sent its pages before i
-- Assumes nothing.
use Rattle.std.specs.Prelude.{◌≡◌, List, ℕ, ◌-◌, ◌≤◌}
use Rattle.filesystem.specs.Tables.{PAGES, page_total}
use Rattle.memory.specs.Layout.{mem_of}
use Rattle.rules.specs.Pages.{Change, first, last}
use Rattle.rules.specs.Skeleton.{Config}
use Rattle.rules.specs.Valid.{ChangeFits}
use Rattle.guard_state.specs.State.{numbers_of, state_of}

pub record Sending (c : Config) (m : List ℕ) (q : Change) (i : ℕ) : Type 0 where
  pub fits : ChangeFits (state_of c m).skeleton.tables.nodes (state_of c m).skeleton.tables.opens
      (numbers_of (mem_of m).head).node (numbers_of (mem_of m).head).opened q
  pub room : page_total (state_of c m).skeleton.tables.nodes ≤ PAGES
  pub from : first q ≤ i
  pub to : i ≤ last q
  pub sent : (numbers_of (mem_of m).head).digests ≡ i - first q
