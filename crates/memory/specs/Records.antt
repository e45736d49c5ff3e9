-- A row of bytes as a record: where each field of a node, of an open file and of a map stands.
--   node_of, open_of, map_of       a row of bytes as a node, as an open file, as a map
--   node_row, open_row, map_row    the row of one, of node_width, open_width and map_width bytes
--   hint_at                      the byte of an open file's row that says where its node stood
-- Assumes nothing.
use Rattle.std.specs.Prelude.{ℕ, ◌+◌, ◌-◌, ◌%◌, List, [], ◌∷◌, ◌++◌, length, replicate}
use Rattle.lists.specs.LittleEndian.{encode, decode}
use Rattle.lists.specs.Parts.{part, overwrite}
use Rattle.filesystem.specs.Tables.{NAME_BYTES, Node, OpenFile}
use Rattle.filesystem.specs.MemoryMaps.{Map}

-- the number in w bytes from `at`
unfoldable pub field : ℕ → ℕ → List ℕ → ℕ
field at w r = decode (part at w r)

-- a row with another number there
unfoldable pub set_field : ℕ → ℕ → ℕ → List ℕ → List ℕ
set_field at w x r = overwrite r at (encode w x)

-- Nodes: rows of 56 bytes, the last one spare.
abbrev pub node_width : ℕ
node_width = 56

-- a name keeps its limit, whatever its length byte holds
unfoldable pub row_name : List ℕ → List ℕ
row_name r = part 23 (field 22 1 r % (NAME_BYTES + 1)) r

unfoldable pub node_of : List ℕ → Node
node_of r = record {
  id = field 0 8 r;
  parent = field 8 8 r;
  kind = field 16 1 r;
  mode = field 17 1 r;
  size = field 18 4
      r;
  name = row_name r;
}

-- a node's row up to its name, with the name's length n
unfoldable pub node_front : (id parent kind mode size n : ℕ) → List ℕ
node_front id parent kind mode size n = encode 8 id ++ (encode 8 parent ++ (kind ∷ mode ∷ (encode 4 size ++ (n ∷ []))))

unfoldable pub node_row : Node → List ℕ
node_row n = node_front n.id n.parent n.kind n.mode n.size (length n.name)
    ++ (n.name ++ replicate (NAME_BYTES + 1 - length n.name) 0)

-- Open files: rows of 24 bytes, 14, 15 and the last four spare. Byte 13 is no part of the open file: where its node
-- stood when it was opened.
abbrev pub open_width : ℕ
open_width = 24

unfoldable pub open_of : List ℕ → OpenFile
open_of r = record { handle = field 0 8 r; descriptor = field 8 4 r; rights = field 12 1 r; cursor = field 16 4 r }

abbrev pub hint_at : ℕ
hint_at = 13

unfoldable pub open_row : (hint : ℕ) → OpenFile → List ℕ
open_row hint o =
    encode 8 o.handle
    ++ (encode 4 o.descriptor
    ++ (o.rights ∷ hint ∷ 0 ∷ 0 ∷ (encode 4 o.cursor
    ++ (0 ∷ 0 ∷ 0 ∷ 0 ∷ []))))

-- Maps: rows of 12 bytes.
abbrev pub map_width : ℕ
map_width = 12

unfoldable pub map_of : List ℕ → Map
map_of r = record { address = field 0 8 r; size = field 8 4 r }

unfoldable pub map_row : Map → List ℕ
map_row m = encode 8 m.address ++ encode 4 m.size
