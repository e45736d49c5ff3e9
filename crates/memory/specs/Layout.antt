-- The guard's memory as tables: the areas in which its bytes are laid out, and what stands in each.
--   Mem, mem_of m                     what stands in a memory: header, nodes, open files, digests, staging area, maps
--   memory_size                       the least length of the slice that is the guard
--   head_numbers, open_rows, …         how many numbers and rows the areas have; nodes_at, opens_at, … where they begin
--   with_head, with_nodes, …           the same memory with another header, other nodes, …
-- Assumes nothing.
use Rattle.std.specs.Prelude.{ℕ, ◌+◌, ◌*◌, List, [], ◌∷◌, get_or}
use Rattle.lists.specs.LittleEndian.{decode}
use Rattle.lists.specs.Areas.{total, areas}
use Rattle.lists.specs.Rows.{table}
use Rattle.filesystem.specs.Tables.{Node, OpenFile, NODES, PAGES, DIGEST_BYTES, DATA_BYTES}
use Rattle.filesystem.specs.MemoryMaps.{Map, MAPS}
use Rattle.memory.specs.Records.{node_of, node_width, open_of, open_width, map_of, map_width}

-- the header: numbers of 8 bytes; more than are in use
abbrev pub head_numbers : ℕ
head_numbers = 32

-- rows for open files: more than the limit, so that a later one moves nothing
abbrev pub open_rows : ℕ
open_rows = 40

abbrev pub digest_width : ℕ
digest_width = DIGEST_BYTES

-- the staging area: a pending call's data, then new digests
abbrev pub data_size : ℕ
data_size = DATA_BYTES

abbrev pub new_digests : ℕ
new_digests = 8

abbrev pub staging_size : ℕ
staging_size = data_size + new_digests * digest_width

-- header, nodes, open files, digests, staging area, maps, one behind the other
abbrev pub area_sizes : List ℕ
area_sizes = head_numbers * 8 ∷ NODES * node_width ∷ open_rows * open_width ∷ PAGES * digest_width ∷ staging_size
    ∷ MAPS * map_width ∷ []

-- the least length of the slice that is the guard
abbrev pub memory_size : ℕ
memory_size = total area_sizes

-- where each area begins
abbrev pub nodes_at : ℕ
nodes_at = head_numbers * 8

abbrev pub opens_at : ℕ
opens_at = nodes_at + NODES * node_width

abbrev pub digests_at : ℕ
digests_at = opens_at + open_rows * open_width

abbrev pub staging_at : ℕ
staging_at = digests_at + PAGES * digest_width

abbrev pub maps_at : ℕ
maps_at = staging_at + staging_size

pub record Mem : Type 0 where
  pub head : List ℕ
  pub nodes : List Node
  pub opens : List OpenFile
  pub digests : List (List ℕ)
  pub staged : List ℕ
  pub maps : List Map

unfoldable pub mem_from : List (List ℕ) → Mem
mem_from a = record {
  head = table decode 8 head_numbers (get_or a 0 []);
  nodes = table node_of node_width NODES (get_or a 1 []);
  opens = table open_of open_width open_rows (get_or a 2 []);
  digests = table (λ r. r) digest_width PAGES (get_or a 3 []);
  staged = get_or a 4 [];
  maps = table map_of map_width MAPS (get_or a 5 []);
}

unfoldable pub mem_of : List ℕ → Mem
mem_of m = mem_from (areas 0 area_sizes m)

abbrev pub with_head : List ℕ → Mem → Mem
with_head x s = record { head = x; nodes = s.nodes; opens = s.opens; digests = s.digests; staged = s.staged; maps = s.maps }

abbrev pub with_nodes : List Node → Mem → Mem
with_nodes x s = record { head = s.head; nodes = x; opens = s.opens; digests = s.digests; staged = s.staged; maps = s.maps }

abbrev pub with_opens : List OpenFile → Mem → Mem
with_opens x s = record { head = s.head; nodes = s.nodes; opens = x; digests = s.digests; staged = s.staged; maps = s.maps }

abbrev pub with_digests : List (List ℕ) → Mem → Mem
with_digests x s = record { head = s.head; nodes = s.nodes; opens = s.opens; digests = x; staged = s.staged; maps = s.maps }

abbrev pub with_staged : List ℕ → Mem → Mem
with_staged x s = record { head = s.head; nodes = s.nodes; opens = s.opens; digests = s.digests; staged = x; maps = s.maps }

abbrev pub with_maps : List Map → Mem → Mem
with_maps x s = record { head = s.head; nodes = s.nodes; opens = s.opens; digests = s.digests; staged = s.staged; maps = x }
