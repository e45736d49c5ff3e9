-- Memory that the host hands out (SPECIFICATION 2.8): a map is an address and a size. It is no part of the files: an image has none.
-- Assumes nothing.
use Rattle.std.specs.Prelude.{List, ℕ, get_or}

pub record Map : Type 0 where
  pub address : ℕ
  pub size : ℕ

-- sixteen maps may live; a map has 1 to 16 units of 4,096 bytes
abbrev pub MAPS : ℕ
MAPS = 16

abbrev pub MAP_UNIT : ℕ
MAP_UNIT = 4096

abbrev pub MAP_BYTES : ℕ
MAP_BYTES = 65536

abbrev pub no_map : Map
no_map = record { address = 0; size = 0 }

unfoldable pub map_at : List Map → ℕ → Map
map_at ms i = get_or ms i no_map
