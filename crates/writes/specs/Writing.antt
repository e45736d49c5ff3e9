-- The pending write of a memory.
--   Writing, write_in        its calls' numbers, and the write
--   EndsAt c m d end count  it can end with the bytes d, before `end`, by the first `count` of the staged digests
-- Assumes nothing.
use Rattle.std.specs.Prelude.{◌≡◌, List, ℕ, ◌+◌, ◌-◌, ◌≤◌, length, take}
use Rattle.filesystem.specs.Tables.{PAGES, page_total}
use Rattle.memory.specs.Layout.{mem_of, new_digests}
use Rattle.tables.specs.View.{staged_digests}
use Rattle.rules.specs.Pages.{Change, writing, first, last}
use Rattle.rules.specs.Skeleton.{Config}
use Rattle.rules.specs.Valid.{ChangeFits}
use Rattle.guard_state.specs.Calls.{FETCHING, STORING}
use Rattle.guard_state.specs.State.{numbers_of, state_of}

-- the numbers of a pending write (guard_state, src/calls.rt)
abbrev pub Writing : ℕ → Type 0
Writing call = (FETCHING ≤ call) × (call ≤ STORING)

unfoldable pub write_in : List ℕ → Change
write_in m = writing (numbers_of (mem_of m).head).position (take (numbers_of (mem_of m).head).bytes (mem_of m).staged)

pub record EndsAt (c : Config) (m d : List ℕ) (end count : ℕ) : Type 0 where
  pub fits : ChangeFits (state_of c m).skeleton.tables.nodes (state_of c m).skeleton.tables.opens
      (numbers_of (mem_of m).head).node (numbers_of (mem_of m).head).opened
      (writing (numbers_of (mem_of m).head).position d)
  pub room : page_total (state_of c m).skeleton.tables.nodes ≤ PAGES
  pub at : end ≡ (numbers_of (mem_of m).head).position + length d
  pub pages : count ≡ last (writing (numbers_of (mem_of m).head).position d)
      - first (writing (numbers_of (mem_of m).head).position d)
  pub few : count ≤ new_digests
  pub staged : take count (state_of c m).progress.digests ≡ staged_digests count (mem_of m).staged
