-- The honest host: which replies are right for the tree as it is (SPECIFICATION 5.5, 5.13). It may say that its disk is full: to a create or mkdir, to a
-- write's store, to a growing cut.
-- Assumes nothing.
use Rattle.std.specs.Prelude.{◌≡◌, ◌⊎◌, true, List, [], ℕ, get_or}
use Rattle.lists.specs.LittleEndian.{encode}
use Rattle.filesystem.specs.Tables.{PAGE_BYTES, node_at}
use Rattle.rules.specs.Pages.{page_of, stores_more, cuts_more}
use Rattle.rules.specs.Requests.{asked, Pending, idle, creating, opening, closing, removing, changing, listing, stating, mapping, unmapping, reading, fetching, storing, cutting}
use Rattle.rules.specs.Requests.{renaming}
use Rattle.rules.specs.Skeleton.{Config}
use Rattle.rules.specs.Rules.{stat_bytes}
use Rattle.rules.specs.RightReplies.{Full, RightId, RightDescriptor, RightListing, RightMap}
use Rattle.machine.specs.Machine.{State}
use Rattle.machine.specs.Tree.{tree}

module _ (c : Config) (t : State (tree c)) (r : List ℕ) where
  unfoldable pub RightFor : Pending → Type 0
  RightFor idle = Unit {0}
  RightFor (asked (creating p k m name)) = RightId c.width t.skeleton.tables r ⊎ Full c.width r
  RightFor (asked (opening k rights)) = RightDescriptor t.skeleton.tables r
  RightFor (asked (closing o)) = r ≡ encode 4 0
  RightFor (asked (removing k)) = r ≡ encode 4 0
  RightFor (asked (changing k m)) = r ≡ encode 4 0
  RightFor (asked (listing k)) = RightListing c.width t.skeleton.tables r k
  RightFor (asked (stating k)) = r ≡ stat_bytes c.width (node_at t.skeleton.tables.nodes k)
  RightFor (asked (mapping n)) = RightMap t.skeleton.maps n r
  RightFor (asked (unmapping a)) = r ≡ encode 4 0
  RightFor (asked (renaming k p name)) = r ≡ encode 4 0
  RightFor (reading k o p n i) = r ≡ page_of (get_or t.contents k []) i
  RightFor (fetching k o q i) = r ≡ page_of (get_or t.contents k []) i
  RightFor (storing k o q i) = (r ≡ encode 4 PAGE_BYTES) ⊎ ((stores_more q ≡ true) × Full 4 r)
  RightFor (cutting k o q) = (r ≡ encode 4 0) ⊎ ((cuts_more q ≡ true) × Full 4 r)

  -- nothing is asked of a reply where no request stands
  unfoldable pub Right : Type 0
  Right = RightFor t.skeleton.pending
