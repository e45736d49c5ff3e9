-- The reference tree (SPECIFICATION 9): the same machine over bytes in place of digests.
-- Assumes nothing.
use Rattle.std.specs.Prelude.{List, [], ◌∷◌, map, ℕ, ◌+◌, ◌-◌, ◌*◌, max, suc, length, get_or}
use Rattle.std.proofs.Math.Option.{Option, some, none}
use Rattle.lists.specs.Pick.{pick}
use Rattle.lists.specs.Equal.{equal}
use Rattle.lists.specs.Cells.{tab}
use Rattle.filesystem.specs.Tables.{PAGE_BYTES, pages_for}
use Rattle.rules.specs.Pages.{page_of, bytes_at, Change, first, last, bytes_after}
use Rattle.rules.specs.Requests.{asked, Pending, idle, reading, fetching, storing, cutting}
use Rattle.rules.specs.Skeleton.{Config}
use Rattle.machine.specs.Machine.{Files, Store, State, Gathered, guard}

-- the nodes and bytes of each save that was done, with its digest, the latest first (SPECIFICATION 9.2)
pub record Saved : Type 0 where
  pub digest : List ℕ
  pub files : Files (List ℕ)

unfoldable pub lookup : List Saved → List ℕ → Option Saved
lookup [] d = none
lookup (s ∷ ss) d = pick (equal s.digest d) (some s) (lookup ss d)

-- the last save that gave the digest handed in; where none did, nothing changes (SPECIFICATION 9.8)
unfoldable pub go_back : Option Saved → Files (List ℕ) → Files (List ℕ)
go_back none f = f
go_back (some s) f = s.files

module _ (c : Config) where
  -- the digests of the tree's own pages (SPECIFICATION 9.7)
  unfoldable pub digests_of : List ℕ → List (List ℕ)
  digests_of b = tab (pages_for (length b)) (λ i. c.digest (page_of b i))

  abbrev pub tree : Store
  tree = record {
    Content = List ℕ;
    Progress = Unit {0};
    Saves = List Saved;
    blank = [];
    nothing = tt;
    unsaved = [];
    is_page = λ b i r. equal r (page_of b i);
    gather = λ a p n i r. tt;
    gathered = λ b p n a. bytes_at b p n;
    page_for = λ b q i r. page_of (bytes_after q b) i;
    sent = λ a p. tt;
    up_to = λ a n. tt;
    changed = λ b q size a. bytes_after q b;
    digests = digests_of;
    keep = λ e d f. record { digest = d; files = f } ∷ e;
    restore = λ e i d f. go_back (lookup e d) f;
  }

  -- The guard that belongs to a tree: every field the same, digests for bytes, and of a pending call what the guard has gathered.
  unfoldable pub sent_digests : List ℕ → Change → (end : ℕ) → List (List ℕ)
  sent_digests b q end = tab (end - first q) (λ j. c.digest (page_of (bytes_after q b) (first q + j)))

  abbrev pub read_so_far : List ℕ → (position i : ℕ) → List ℕ
  read_so_far b p i = bytes_at b p (max p (i * PAGE_BYTES) - p)

  unfoldable pub progress_of : List (List ℕ) → Pending → Gathered
  progress_of xs idle = record { bytes = []; digests = [] }
  progress_of xs (asked x) = record { bytes = []; digests = [] }
  progress_of xs (reading k o p n i) = record { bytes = read_so_far (get_or xs k []) p i; digests = [] }
  progress_of xs (fetching k o q i) = record { bytes = []; digests = sent_digests (get_or xs k []) q i }
  progress_of xs (storing k o q i) = record { bytes = []; digests = sent_digests (get_or xs k []) q (suc i) }
  progress_of xs (cutting k o q) = record { bytes = []; digests = sent_digests (get_or xs k []) q (last q) }

  abbrev pub guard_with : State tree → Gathered → State (guard c)
  guard_with t a = record { skeleton = t.skeleton; contents = map digests_of t.contents; progress = a; saves = tt }

  unfoldable pub guard_of : State tree → State (guard c)
  guard_of t = guard_with t (progress_of t.contents t.skeleton.pending)
