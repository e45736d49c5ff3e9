-- What the guard keeps of files beside their pages (SPECIFICATION 2): nodes and open files, their limits and changes.
-- Assumes nothing.
use Rattle.std.specs.Prelude.{Bool, ◌&&◌, not, List, [], ◌∷◌, ℕ, ◌+◌, ◌-◌, ◌/◌, ◌%◌, eqb, leb, length, get_or, set}
use Rattle.lists.specs.Equal.{equal}
use Rattle.lists.specs.Search.{place, select}

-- limits (SPECIFICATION 2.7)
abbrev pub NODES : ℕ
NODES = 256

abbrev pub OPEN_FILES : ℕ
OPEN_FILES = 32

abbrev pub PAGES : ℕ
PAGES = 1024

abbrev pub PAGE_BYTES : ℕ
PAGE_BYTES = 1024

abbrev pub DIGEST_BYTES : ℕ
DIGEST_BYTES = 32

abbrev pub FILE_BYTES : ℕ
FILE_BYTES = 65536

abbrev pub NAME_BYTES : ℕ
NAME_BYTES = 32

abbrev pub PATH_BYTES : ℕ
PATH_BYTES = 255

-- an id's bytes; the most bytes of one read or write; descriptors are below
abbrev pub ID_BYTES : ℕ
ID_BYTES = 4

abbrev pub DATA_BYTES : ℕ
DATA_BYTES = 4096

abbrev pub DESCRIPTORS : ℕ
DESCRIPTORS = 1024

-- SPECIFICATION 2.1: kind 1 is a file, 2 a directory; mode 0 to 7; the parent is an id, the root's is 0
pub record Node : Type 0 where
  pub id : ℕ
  pub parent : ℕ
  pub kind : ℕ
  pub mode : ℕ
  pub size : ℕ
  pub name : List ℕ

-- SPECIFICATION 2.5: the handle is the file's id; rights 1 read, 2 write, 3 both
pub record OpenFile : Type 0 where
  pub handle : ℕ
  pub descriptor : ℕ
  pub rights : ℕ
  pub cursor : ℕ

-- nodes in the order in which they were made (SPECIFICATION 2.3)
pub record Tables : Type 0 where
  pub nodes : List Node
  pub opens : List OpenFile

abbrev pub is_file : Node → Bool
is_file n = eqb n.kind 1

abbrev pub is_directory : Node → Bool
is_directory n = eqb n.kind 2

-- does a mode have bit 4 (read), 2 (write) or 1 (search)?
abbrev pub has_bit : ℕ → Node → Bool
has_bit b n = eqb (n.mode / b % 2) 1

-- how many pages a size needs (SPECIFICATION 2.4)
unfoldable pub pages_for : ℕ → ℕ
pages_for size = (size + (PAGE_BYTES - 1)) / PAGE_BYTES

unfoldable pub page_total : List Node → ℕ
page_total [] = 0
page_total (n ∷ ns) = pages_for n.size + page_total ns

-- what stands in a place; past the end nothing does
abbrev pub no_node : Node
no_node = record { id = 0; parent = 0; kind = 0; mode = 0; size = 0; name = [] }

abbrev pub no_open_file : OpenFile
no_open_file = record { handle = 0; descriptor = 0; rights = 0; cursor = 0 }

unfoldable pub node_at : List Node → ℕ → Node
node_at ns k = get_or ns k no_node

unfoldable pub open_at : List OpenFile → ℕ → OpenFile
open_at os k = get_or os k no_open_file

-- a place past the end says that a search found nothing
abbrev pub absent : {A : Type 0} → List A → ℕ → Bool
absent l k = leb (length l) k

abbrev pub present : {A : Type 0} → List A → ℕ → Bool
present l k = not (absent l k)

-- searches, by id, by parent's id and name, by handle, by descriptor
abbrev pub has_id : ℕ → Node → Bool
has_id x n = eqb n.id x

abbrev pub is_child : ℕ → List ℕ → Node → Bool
is_child p name n = eqb n.parent p && equal n.name name

abbrev pub has_parent : ℕ → Node → Bool
has_parent p n = eqb n.parent p

abbrev pub has_handle : ℕ → OpenFile → Bool
has_handle h o = eqb o.handle h

abbrev pub has_descriptor : ℕ → OpenFile → Bool
has_descriptor d o = eqb o.descriptor d

unfoldable pub find_id : List Node → ℕ → ℕ
find_id ns x = place (has_id x) ns

unfoldable pub find_child : List Node → ℕ → List ℕ → ℕ
find_child ns p name = place (is_child p name) ns

unfoldable pub children : List Node → ℕ → List Node
children ns p = select (has_parent p) ns

unfoldable pub find_handle : List OpenFile → ℕ → ℕ
find_handle os h = place (has_handle h) os

unfoldable pub find_descriptor : List OpenFile → ℕ → ℕ
find_descriptor os d = place (has_descriptor d) os

-- changes
abbrev pub new_node : (id parent kind mode : ℕ) → List ℕ → Node
new_node i p k m name = record { id = i; parent = p; kind = k; mode = m; size = 0; name = name }

abbrev pub with_mode : ℕ → Node → Node
with_mode m n = record { id = n.id; parent = n.parent; kind = n.kind; mode = m; size = n.size; name = n.name }

abbrev pub with_size : ℕ → Node → Node
with_size s n = record { id = n.id; parent = n.parent; kind = n.kind; mode = n.mode; size = s; name = n.name }

-- another parent's id and another name
abbrev pub with_place : ℕ → List ℕ → Node → Node
with_place p name n = record { id = n.id; parent = p; kind = n.kind; mode = n.mode; size = n.size; name = name }

abbrev pub new_open_file : (handle descriptor rights : ℕ) → OpenFile
new_open_file h d r = record { handle = h; descriptor = d; rights = r; cursor = 0 }

abbrev pub with_cursor : ℕ → OpenFile → OpenFile
with_cursor p o = record { handle = o.handle; descriptor = o.descriptor; rights = o.rights; cursor = p }

unfoldable pub set_mode : List Node → ℕ → ℕ → List Node
set_mode ns k m = set ns k (with_mode m (node_at ns k))

unfoldable pub set_size : List Node → ℕ → ℕ → List Node
set_size ns k s = set ns k (with_size s (node_at ns k))

-- the record keeps its place
unfoldable pub renamed : List Node → ℕ → ℕ → List ℕ → List Node
renamed ns k p name = set ns k (with_place p name (node_at ns k))

unfoldable pub set_cursor : List OpenFile → ℕ → ℕ → List OpenFile
set_cursor os k p = set os k (with_cursor p (open_at os k))

-- what a fresh guard has (SPECIFICATION 2.2)
abbrev pub root : Node
root = new_node 1 0 2 7 []

abbrev pub fresh_tables : Tables
fresh_tables = record { nodes = root ∷ []; opens = [] }
