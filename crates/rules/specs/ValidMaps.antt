-- What a table of maps keeps, and what a move asks of it.
-- Assumes nothing.
use Rattle.std.specs.Prelude.{◌≡◌, true}
use mathlib.Core.List.{List}
use Prim.Native.Nat.{◌+◌, ◌%◌, ◌≤◌, ◌<◌}
use Rattle.std.proofs.Math.ListN.{length}
use Rattle.lists.specs.All.{All}
use Rattle.lists.specs.Search.{unique}
use Rattle.filesystem.specs.MemoryMaps.{Map, MAP_UNIT, MAP_BYTES}
use Rattle.rules.specs.MapRules.{ADDRESSES, is_map_size, find_map, overlaps, maps_after}
use Rattle.std.specs.Prelude.{◌≡◌, true, List, ◌+◌, ◌<◌, length}
use Rattle.filesystem.specs.MemoryMaps.{Map}
use Rattle.rules.specs.MapRules.{is_map_size, find_map, maps_after}
use Rattle.rules.specs.Requests.{asked, Pending, idle, creating, opening, closing, removing, changing, listing, stating, mapping, unmapping, reading, fetching, storing, cutting}
use Rattle.rules.specs.Requests.{renaming}
use Rattle.rules.specs.Skeleton.{Skeleton}
use Rattle.rules.specs.Rules.{Move, refuse, halt, send, finish, add, delete, remap, read_page, begin, fill_page, stored, cut_done, keep_pages, give_up, saving, loading}

-- The table of maps.
pub record ValidMap (m : Map) : Type 0 where
  pub units : m.address % MAP_UNIT ≡ 0
  pub not-zero : 1 ≤ m.address
  pub ends-inside : m.address + m.size ≤ ADDRESSES
  pub least : MAP_UNIT ≤ m.size
  pub most : m.size ≤ MAP_BYTES

pub record ValidMaps (ms : List Map) : Type 0 where
  pub each : All ValidMap ms
  pub apart : unique overlaps ms ≡ true
  pub few : length ms ≤ 16

-- of the pending call: a map that is asked for has its room, one that is to end lives
abbrev pub MapFits : List Map → Pending → Type 0
MapFits ms idle = Unit {0}
MapFits ms (asked (creating p k m name)) = Unit {0}
MapFits ms (asked (opening k rights)) = Unit {0}
MapFits ms (asked (closing o)) = Unit {0}
MapFits ms (asked (removing k)) = Unit {0}
MapFits ms (asked (changing k m)) = Unit {0}
MapFits ms (asked (listing k)) = Unit {0}
MapFits ms (asked (stating k)) = Unit {0}
MapFits ms (asked (mapping n)) = (length ms < 16) × (is_map_size n ≡ true)
MapFits ms (asked (unmapping a)) = find_map ms a < length ms
MapFits ms (asked (renaming k p name)) = Unit {0}
MapFits ms (reading k o p n i) = Unit {0}
MapFits ms (fetching k o q i) = Unit {0}
MapFits ms (storing k o q i) = Unit {0}
MapFits ms (cutting k o q) = Unit {0}

pub record MapsValid (sk : Skeleton) : Type 0 where
  pub valid : ValidMaps sk.maps
  pub pending : MapFits sk.maps sk.pending

-- what a move asks of the maps: room for one that is asked for, and a valid table after a change
abbrev pub MapMove : List Map → Move → Type 0
MapMove ms (refuse n) = Unit {0}
MapMove ms (halt n) = Unit {0}
MapMove ms (send p q) = MapFits ms p
MapMove ms (finish t n b) = Unit {0}
MapMove ms (add n) = Unit {0}
MapMove ms (delete k) = Unit {0}
MapMove ms (remap x) = ValidMaps (maps_after x ms)
MapMove ms (read_page k o p n i r) = Unit {0}
MapMove ms (begin k o q) = Unit {0}
MapMove ms (fill_page k o q i r) = Unit {0}
MapMove ms (stored k o q i) = Unit {0}
MapMove ms (cut_done k o q) = Unit {0}
MapMove ms (keep_pages k o q i) = Unit {0}
MapMove ms give_up = Unit {0}
MapMove ms saving = Unit {0}
MapMove ms (loading i d) = Unit {0}
