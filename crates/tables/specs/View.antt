-- The rows in use of the memory's tables, and their changes.
--   View, view_of n o m        the first n nodes with their digests, the first o open files
--   tables_in n o m            the tables alone
--   staged_digests             new digests in the staging area
--   with_node, without_node, with_open, without_open, mode_at, cursor_at, with_change    changes of a view
--   Changeable, Growable      what a change of a file needs, and a growth
--   Spans                     where a file's pages stand
--   Resizes, Bounded, Room    where its rows stand before and after a change of its size, and what that asks of them
--   changed_rows               what it makes of them
--   Others                    none of some rows has this parent
-- Assumes nothing.
use Rattle.std.specs.Prelude.{List, [], ◌∷◌, ◌++◌, ◌≡◌, ℕ, ◌+◌, ◌-◌, ◌*◌, ◌/◌, ◌%◌, ◌<◌, ◌≤◌, max, eqb, length, get_or, take, set}
use Rattle.lists.specs.Pick.{pick}
use Rattle.lists.specs.Parts.{part, overwrite}
use Rattle.lists.specs.Rows.{rows}
use Rattle.lists.specs.Search.{without}
use Rattle.filesystem.specs.Tables.{NODES, PAGES, Node, OpenFile, Tables, node_at, pages_for, page_total, set_mode, set_size}
use Rattle.filesystem.specs.Tables.{set_cursor}
use Rattle.filesystem.specs.MemoryMaps.{Map}
use Rattle.filesystem.specs.Image.{divide}
use Rattle.filesystem.specs.Digests.{replaced}
use Rattle.memory.specs.Layout.{Mem, digest_width, data_size, new_digests, with_nodes, with_digests}
use Rattle.tables.specs.declared.Span.{Span}
use Rattle.tables.specs.declared.Resize.{Resize}

-- The rows in use: of n nodes and o open files. A node's digests stand behind those of the nodes before it.
pub record View : Type 0 where
  pub head : List ℕ
  pub nodes : List Node
  pub contents : List (List (List ℕ))
  pub opens : List OpenFile
  pub staged : List ℕ
  pub maps : List Map

unfoldable pub view_of : (n o : ℕ) → Mem → View
view_of n o m = record {
  head = m.head;
  nodes = take n m.nodes;
  contents = divide (take n m.nodes) m.digests;
  opens = take o m.opens;
  staged = m.staged;
  maps = m.maps;
}

-- the tables alone
unfoldable pub tables_in : (n o : ℕ) → Mem → Tables
tables_in n o m = record { nodes = take n m.nodes; opens = take o m.opens }

-- new digests in the staging area
unfoldable pub staged_digests : ℕ → List ℕ → List (List ℕ)
staged_digests n s = rows digest_width n (part data_size (n * digest_width) s)

-- the page of zeros
-- Changes of the view: other nodes and contents, other open files, other staged bytes.
abbrev pub with_files : List Node → List (List (List ℕ)) → View → View
with_files ns x v = record { head = v.head; nodes = ns; contents = x; opens = v.opens; staged = v.staged; maps = v.maps }

abbrev pub with_opens : List OpenFile → View → View
with_opens os v = record { head = v.head; nodes = v.nodes; contents = v.contents; opens = os; staged = v.staged; maps = v.maps }

abbrev pub with_staging : List ℕ → View → View
with_staging s v = record { head = v.head; nodes = v.nodes; contents = v.contents; opens = v.opens; staged = s; maps = v.maps }

abbrev pub with_node : Node → View → View
with_node x v = with_files (v.nodes ++ (x ∷ [])) (v.contents ++ ([] ∷ [])) v

abbrev pub without_node : ℕ → View → View
without_node k v = with_files (without k v.nodes) (without k v.contents) v

abbrev pub mode_at : (k mode : ℕ) → View → View
mode_at k x v = with_files (set_mode v.nodes k x) v.contents v

abbrev pub with_open : OpenFile → View → View
with_open x v = with_opens (v.opens ++ (x ∷ [])) v

abbrev pub without_open : ℕ → View → View
without_open k v = with_opens (without k v.opens) v

abbrev pub cursor_at : (k cursor : ℕ) → View → View
cursor_at k x v = with_opens (set_cursor v.opens k x) v

-- file k with another size, and its digests with new ones from page `from` on
unfoldable pub with_change : (blank : List ℕ) → (k size from : ℕ) → List (List ℕ) → View → View
with_change blank k size from new v = with_files (set_size v.nodes k size)
    (set v.contents k (replaced blank (get_or v.contents k []) size from new)) v

-- what a change of file k among these nodes needs: room before and after, and every added page among the `count` new
-- ones from `from` on
pub record Changeable (ns : List Node) (k size from count : ℕ) : Type 0 where
  pub known : k < length ns
  pub room_before : page_total ns ≤ PAGES
  pub room_after : page_total (set_size ns k size) ≤ PAGES
  pub begins : from ≤ pages_for (node_at ns k).size
  pub ends : from + count ≤ pages_for size
  pub covered : pages_for size ≤ max (pages_for (node_at ns k).size) (from + count)
  pub few : count ≤ new_digests

-- what a growth of file k among these nodes needs: room before and after, and no fewer pages than before
pub record Growable (ns : List Node) (k size : ℕ) : Type 0 where
  pub known : k < length ns
  pub room_before : page_total ns ≤ PAGES
  pub room_after : page_total (set_size ns k size) ≤ PAGES
  pub grows : pages_for (node_at ns k).size ≤ pages_for size

-- the pages of node k and those of the first n
pub record Spans (ns : List Node) (n k : ℕ) (s : Span) : Type 0 where
  pub known : k < n
  pub fits : n ≤ NODES
  pub begins : s.first ≡ page_total (take k ns)
  pub ends : s.end ≡ s.first + pages_for (node_at ns k).size
  pub within : s.end ≤ s.total
  pub all : s.total ≡ page_total (take n ns)

-- node k of the first n given this size: the rows behind its own move, but where it keeps its count of pages
pub record Resizes (ns : List Node) (n k size : ℕ) (s : Resize) : Type 0 where
  pub known : k < n
  pub fits : n ≤ NODES
  pub begins : s.first ≡ page_total (take k ns)
  pub is-old : s.old ≡ pages_for (node_at ns k).size
  pub is_new : s.new ≡ pages_for size
  pub moves : s.behind ≡ pick (eqb s.old s.new) 0 (page_total (take n ns) - (s.first + s.old))

-- counts small enough to be summed
pub record Bounded (s : Resize) : Type 0 where
  pub few_first : s.first ≤ 1073741824
  pub few_old : s.old ≤ 4194304
  pub few_new : s.new ≤ 4194304
  pub few_behind : s.behind ≤ 1073741824

-- what a change asks of the rows, with `count` new ones from the file's row `from` on
pub record Room (s : Resize) (from count : ℕ) : Type 0 where
  pub before_fits : s.first + s.old + s.behind ≤ PAGES
  pub after_fits : s.first + s.new + s.behind ≤ PAGES
  pub begins : from ≤ s.old
  pub ends : from + count ≤ s.new
  pub few : count ≤ new_digests

-- and what it makes of them: file k has this size, and these new digests from its row `from` on
unfoldable pub changed_rows : (k size from : ℕ) → List (List ℕ) → Resize → Mem → Mem
changed_rows k size from ds s m =
    let moved = overwrite m.digests (s.first + s.new) (part (s.first + s.old) s.behind m.digests) in
    with_nodes (set_size m.nodes k size) (with_digests (overwrite moved (s.first + from) ds) m)

-- no node from place a on and before b has this parent
abbrev pub Others : List Node → (parent a b : ℕ) → Type 0
Others ns parent a b = (k : ℕ) → a ≤ k → k < b → (node_at ns k).parent ≡ parent → ⊥

-- the table's hash of an id
unfoldable pub hash_of : ℕ → ℕ
hash_of id = id % 4294967296 * 2654435769 / 16777216 % NODES

-- by the hash of a parent's id a place that is not behind its children, among the first n nodes
abbrev pub FirstPlaces : List Node → ℕ → List ℕ → Type 0
FirstPlaces ns n f = (k : ℕ) → k < n → get_or f (hash_of (node_at ns k).parent) 0 ≤ k
