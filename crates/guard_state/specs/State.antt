-- The guard's memory as the machine's state: the header's numbers, the rows in use of each table, and the pending call.
-- Total: each number of the header is read within its limit.
--   numbers_of, numbers_in m    the header's numbers, each within its limit
--   HasRoot m                 there is a node
--   pending_in, gathered_in     the pending call and what it has gathered, by the header's numbers and the staged bytes
--   maps_in v                  the maps that live, by the header's count
--   state_of c m               the machine's state that a memory holds
--   cleared_head, reading_head  the header when nothing is pending, and of a read that waits
-- Assumes nothing.
use Rattle.std.specs.Prelude.{Bool, List, [], ◌∷◌, ℕ, ◌+◌, ◌/◌, ◌%◌, ◌<◌, eqb, get_or, take, drop, set}
use Rattle.filesystem.specs.Tables.{NODES, PAGE_BYTES, FILE_BYTES, DATA_BYTES}
use Rattle.filesystem.specs.MemoryMaps.{Map, MAPS}
use Rattle.memory.specs.Layout.{mem_of, open_rows, new_digests}
use Rattle.rules.specs.Pages.{writing, shrinking, growing}
use Rattle.rules.specs.Requests.{asked, Pending, idle, creating, opening, closing, removing, changing, listing, stating}
use Rattle.rules.specs.Requests.{reading, fetching, storing, cutting, mapping, unmapping, renaming}
use Rattle.rules.specs.Skeleton.{Config}
use Rattle.machine.specs.Machine.{State, Gathered, guard as digest_store}
use Rattle.tables.specs.View.{View, view_of, staged_digests}
use Rattle.guard_state.specs.declared.Guard.{Guard}
use Rattle.guard_state.specs.Calls.{READING}

-- the pages of the largest file
abbrev pub file_pages : ℕ
file_pages = FILE_BYTES / PAGE_BYTES

-- The header's numbers, in the order of their places (src/header.rt).
unfoldable pub numbers_of : List ℕ → Guard
numbers_of h = record {
  nodes = get_or h 0 0 % (NODES + 1);
  opens = get_or h 1 0 % (open_rows + 1);
  stopped = eqb (get_or h 2 0) 0;
  call = get_or h 3 0;
  node = get_or h 4 0 % NODES;
  opened = get_or h 5 0 % open_rows;
  parent = get_or h 6 0;
  kind = get_or h 7 0;
  mode = get_or h 8 0;
  rights = get_or h 9 0;
  position = get_or h 10 0 % (FILE_BYTES + 1);
  count = get_or h 11 0 % (DATA_BYTES + 1);
  size = get_or h 12 0 % (FILE_BYTES + 1);
  page = get_or h 13 0 % (file_pages + 1);
  bytes = get_or h 14 0 % (DATA_BYTES + 1);
  digests = get_or h 15 0 % (new_digests + 1);
}

-- the numbers that a memory holds
abbrev pub numbers_in : List ℕ → Guard
numbers_in m = numbers_of (mem_of m).head

-- there is a node
abbrev pub HasRoot : List ℕ → Type 0
HasRoot m = 0 < (numbers_in m).nodes

-- The pending call: its bytes, and what it is by its number (src/calls.rt); any other number is idle.
unfoldable pub staged_bytes : Guard → List ℕ → List ℕ
staged_bytes g s = take g.bytes s

unfoldable pub pendings : Guard → List ℕ → List Pending
pendings g s =
    idle
    ∷ asked (creating g.parent g.kind g.mode (staged_bytes g s))
    ∷ asked (opening g.node g.rights)
    ∷ asked (closing g.opened)
    ∷ asked (removing g.node)
    ∷ asked (changing g.node g.mode)
    ∷ asked (listing g.node)
    ∷ asked (stating g.node)
    ∷ reading g.node g.opened g.position g.count g.page
    ∷ fetching g.node g.opened (writing g.position (staged_bytes g s)) g.page
    ∷ storing g.node g.opened (writing g.position (staged_bytes g s)) g.page
    ∷ fetching g.node g.opened (shrinking g.size) g.page
    ∷ storing g.node g.opened (shrinking g.size) g.page
    ∷ cutting g.node g.opened (shrinking g.size)
    ∷ cutting g.node g.opened (growing g.size)
    ∷ asked (mapping g.size)
    ∷ asked (unmapping g.parent)
    ∷ asked (renaming g.node g.parent (staged_bytes g s))
    ∷ []

unfoldable pub pending_in : Guard → List ℕ → Pending
pending_in g s = get_or (pendings g s) g.call idle

-- a read (8) has gathered bytes, a change that stores pages (9 to 13) new digests
abbrev pub gathered_none : Gathered
gathered_none = record { bytes = []; digests = [] }

abbrev pub gathered_read : List ℕ → Gathered
gathered_read b = record { bytes = b; digests = [] }

abbrev pub gathered_bytes : Guard → List ℕ → Gathered
gathered_bytes g s = gathered_read (staged_bytes g s)

abbrev pub gathered_digests : Guard → List ℕ → Gathered
gathered_digests g s = record { bytes = []; digests = staged_digests g.digests s }

unfoldable pub gathered_in : Guard → List ℕ → Gathered
gathered_in g s =
    get_or
    (gathered_none ∷ gathered_none ∷ gathered_none ∷ gathered_none ∷ gathered_none ∷ gathered_none ∷ gathered_none
    ∷ gathered_none
    ∷ gathered_bytes g s
    ∷ gathered_digests g s ∷ gathered_digests g s ∷ gathered_digests g s ∷ gathered_digests g s ∷ gathered_digests g s
    ∷ [])
    g.call gathered_none

-- the maps that live: as many rows as the header's number behind the others says
unfoldable pub map_count : List ℕ → ℕ
map_count h = get_or h 16 0 % (MAPS + 1)

abbrev pub maps_in : View → List Map
maps_in v = take (map_count v.head) v.maps

-- The state: of the rows in use and a pending call; of the numbers; of the memory.
abbrev pub state_with : (c : Config) → View → List Map → Pending → (stopped : Bool) → Gathered → State (digest_store c)
state_with c v ms p stopped a = record {
  skeleton = record {
    tables = record { nodes = v.nodes; opens = v.opens };
    pending = p;
    stopped = stopped;
    maps = ms;
  };
  contents = v.contents;
  progress = a;
  saves = tt;
}

unfoldable pub state_in : (c : Config) → Guard → View → State (digest_store c)
state_in c g v = state_with c v (maps_in v) (pending_in g v.staged) g.stopped (gathered_in g v.staged)

unfoldable pub state_of : (c : Config) → List ℕ → State (digest_store c)
state_of c m = let g = numbers_of (mem_of m).head in state_in c g (view_of g.nodes g.opens (mem_of m))

-- the header when no call is pending and the guard has not stopped; the counts stay
unfoldable pub cleared_head : List ℕ → List ℕ
cleared_head h =
    get_or h 0 0 ∷ get_or h 1 0 ∷ 1 ∷ 0 ∷ 0 ∷ 0 ∷ 0 ∷ 0 ∷ 0 ∷ 0 ∷ 0 ∷ 0 ∷ 0 ∷ 0 ∷ 0 ∷ 0
    ∷ get_or h 16 0 ∷ drop 17 h

-- the same in two steps, as the code takes them: what is pending and its places; its span and what is staged
abbrev pub cleared_call : List ℕ → List ℕ
cleared_call h = set (set (set (set (set (set (set h 2 1) 3 0) 4 0) 5 0) 6 0) 7 0) 8 0

abbrev pub cleared_span : List ℕ → List ℕ
cleared_span h = set (set (set (set (set (set (set h 9 0) 10 0) 11 0) 12 0) 13 0) 14 0) 15 0

-- the header of a read that waits for a page
abbrev pub reading_head : List ℕ → (node opened position count page : ℕ) → List ℕ
reading_head h k o p n i = set (set (set (set (set (set (cleared_head h) 3 READING) 4 k) 5 o) 10 p) 11 n) 13 i
