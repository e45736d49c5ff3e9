-- The pending call, by the header's numbers.
-- Assumes nothing.
use Rattle.std.specs.Prelude.{◌≡◌, List, ℕ, take}
use Rattle.rules.specs.Pages.{writing, shrinking, growing}
use Rattle.rules.specs.Requests.{asked, creating, opening, closing, removing, changing, listing, stating, reading}
use Rattle.rules.specs.Requests.{fetching, storing, cutting, mapping, unmapping, renaming}
use Rattle.rules.specs.Skeleton.{Config}
use Rattle.memory.specs.Layout.{mem_of}
use Rattle.guard_state.specs.Calls.{CREATING, OPENING, CLOSING, REMOVING, CHANGING, LISTING, STATING, READING}
use Rattle.guard_state.specs.Calls.{FETCHING, STORING, SHRINK_FETCHING, SHRINK_STORING, CUTTING, GROWING}
use Rattle.guard_state.specs.Calls.{MAPPING, UNMAPPING, RENAMING}
use Rattle.guard_state.specs.declared.Guard.{Guard}
use Rattle.guard_state.specs.State.{numbers_of, staged_bytes, pendings, state_of}
use Rattle.guard_state.specs.laws.WaitLaws.{pending_at}

module _ (c : Config) (m : List ℕ) where
  abbrev g : Guard
  g = numbers_of (mem_of m).head

  pub create_pending : g.call ≡ CREATING → (state_of c m).skeleton.pending ≡ asked
      (creating g.parent g.kind g.mode (take g.bytes (mem_of m).staged))
  unfolding pendings staged_bytes
  create_pending e = pending_at c m 1 e

  pub open_pending : g.call ≡ OPENING → (state_of c m).skeleton.pending ≡ asked (opening g.node g.rights)
  unfolding pendings
  open_pending e = pending_at c m 2 e

  pub close_pending : g.call ≡ CLOSING → (state_of c m).skeleton.pending ≡ asked (closing g.opened)
  unfolding pendings
  close_pending e = pending_at c m 3 e

  pub remove_pending : g.call ≡ REMOVING → (state_of c m).skeleton.pending ≡ asked (removing g.node)
  unfolding pendings
  remove_pending e = pending_at c m 4 e

  pub chmod_pending : g.call ≡ CHANGING → (state_of c m).skeleton.pending ≡ asked (changing g.node g.mode)
  unfolding pendings
  chmod_pending e = pending_at c m 5 e

  pub listing_pending : g.call ≡ LISTING → (state_of c m).skeleton.pending ≡ asked (listing g.node)
  unfolding pendings
  listing_pending e = pending_at c m 6 e

  pub stat_pending : g.call ≡ STATING → (state_of c m).skeleton.pending ≡ asked (stating g.node)
  unfolding pendings
  stat_pending e = pending_at c m 7 e

  pub read_pending : g.call ≡ READING → (state_of c m).skeleton.pending ≡ reading g.node g.opened g.position
      g.count g.page
  unfolding pendings
  read_pending e = pending_at c m 8 e

  pub fetch_pending : g.call ≡ FETCHING
      → (state_of c m).skeleton.pending ≡ fetching g.node g.opened
      (writing g.position (take g.bytes (mem_of m).staged)) g.page
  unfolding pendings staged_bytes
  fetch_pending e = pending_at c m 9 e

  pub store_pending : g.call ≡ STORING
      → (state_of c m).skeleton.pending ≡ storing g.node g.opened
      (writing g.position (take g.bytes (mem_of m).staged)) g.page
  unfolding pendings staged_bytes
  store_pending e = pending_at c m 10 e

  pub shrink_fetch_pending : g.call ≡ SHRINK_FETCHING → (state_of c m).skeleton.pending ≡ fetching g.node g.opened
      (shrinking g.size) g.page
  unfolding pendings
  shrink_fetch_pending e = pending_at c m 11 e

  pub shrink_store_pending : g.call ≡ SHRINK_STORING → (state_of c m).skeleton.pending ≡ storing g.node g.opened
      (shrinking g.size) g.page
  unfolding pendings
  shrink_store_pending e = pending_at c m 12 e

  pub cut_pending : g.call ≡ CUTTING → (state_of c m).skeleton.pending ≡ cutting g.node g.opened
      (shrinking g.size)
  unfolding pendings
  cut_pending e = pending_at c m 13 e

  pub grow_pending : g.call ≡ GROWING → (state_of c m).skeleton.pending ≡ cutting g.node g.opened
      (growing g.size)
  unfolding pendings
  grow_pending e = pending_at c m 14 e

  pub map_pending : g.call ≡ MAPPING → (state_of c m).skeleton.pending ≡ asked (mapping g.size)
  unfolding pendings
  map_pending e = pending_at c m 15 e

  pub unmap_pending : g.call ≡ UNMAPPING → (state_of c m).skeleton.pending ≡ asked (unmapping g.parent)
  unfolding pendings
  unmap_pending e = pending_at c m 16 e

  pub rename_pending : g.call ≡ RENAMING → (state_of c m).skeleton.pending ≡ asked (renaming g.node g.parent
      (staged_bytes g (mem_of m).staged))
  unfolding pendings
  rename_pending e = pending_at c m 17 e
