-- Maps (SPECIFICATION 4.1, 5.5): which size may be asked, what is wrong with a reply, and the table afterwards. The host chooses only addresses.
-- Letters: ms the maps that live, m n a map, a an address, r a reply.
-- Assumes nothing.
use Rattle.std.specs.Prelude.{Bool, ◌&&◌, not, List, [], ◌∷◌, ◌++◌, ℕ, ◌+◌, ◌%◌, eqb, leb, ltb, drop, take}
use Rattle.lists.specs.Search.{any, every, place, without}
use Rattle.lists.specs.LittleEndian.{decode}
use Rattle.lists.specs.Checks.{Check}
use Rattle.filesystem.specs.MemoryMaps.{Map, MAP_UNIT, MAP_BYTES}

-- no byte lies beyond 2^64 - 1
abbrev pub ADDRESSES : ℕ
ADDRESSES = 18446744073709551616

unfoldable pub is_map_size : ℕ → Bool
is_map_size n = leb MAP_UNIT n && (leb n MAP_BYTES && eqb (n % MAP_UNIT) 0)

abbrev pub starts_at : ℕ → Map → Bool
starts_at a m = eqb m.address a

unfoldable pub find_map : List Map → ℕ → ℕ
find_map ms a = place (starts_at a) ms

-- have two maps a byte in common? Touching is none
unfoldable pub overlaps : Map → Map → Bool
overlaps m n = ltb m.address (n.address + n.size) && ltb n.address (m.address + m.size)

-- the address that a reply names, and the bytes behind it
abbrev pub address_in : List ℕ → ℕ
address_in r = decode (take 8 r)

abbrev pub map_in : ℕ → List ℕ → Map
map_in n r = record { address = address_in r; size = n }

-- what is wrong with a reply of the right length: reason 8
unfoldable pub map_faults : List Map → (n : ℕ) → List ℕ → List Check
map_faults ms n r =
    (8, eqb (address_in r) 0) ∷ (8, not (eqb (address_in r % MAP_UNIT) 0)) ∷ (8, ltb ADDRESSES (address_in r + n)) ∷ (8, any (overlaps (map_in n r)) ms)
    ∷ (8, not (every (eqb 0) (drop 8 r))) ∷ []

-- a map begins, or the one at an address ends
pub data MapChange : Type 0 where
  begins : Map → MapChange
  ends : (address : ℕ) → MapChange

unfoldable pub maps_after : MapChange → List Map → List Map
maps_after (begins m) ms = ms ++ (m ∷ [])
maps_after (ends a) ms = without (find_map ms a) ms

-- done carries the address of a new map; 0 at its end
unfoldable pub map_number : MapChange → ℕ
map_number (begins m) = m.address
map_number (ends a) = 0
