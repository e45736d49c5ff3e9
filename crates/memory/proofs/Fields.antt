-- Each field of a row as the number that stands at its place in the memory.
-- Assumes nothing.
use Rattle.std.specs.Prelude.{◌≡◌, List, ℕ, ◌+◌, ◌*◌, ◌<◌, ◌≤◌, get_or}
use Rattle.std.proofs.Common.{refl, ap, ◌∙◌, add-zero, arith}
use Rattle.lists.specs.LittleEndian.{decode}
use Rattle.lists.specs.Parts.{part}
use Rattle.filesystem.specs.Tables.{NODES, node_at, open_at}
use Rattle.filesystem.specs.MemoryMaps.{MAPS, map_at}
use Rattle.memory.specs.Records.{field, node_of, node_width, open_of, open_width, map_of, map_width}
use Rattle.memory.specs.laws.RecordLaws.{field-part, field_byte}
use Rattle.memory.specs.Layout.{mem_of, open_rows, nodes_at, opens_at, maps_at}
use Rattle.memory.specs.laws.MemLaws.{node_at_lem, open_at_lem, map_at_lem}

-- a field f, in w bytes at k of a row of n bytes at a
module _ {A : Type 0} (f : A → ℕ) (m : List ℕ) (a n k : ℕ) {x y : A} (row : x ≡ y) where
  number : (w : ℕ) → f y ≡ field k w (part a n m) → k + w ≤ n → f x ≡ decode (part (a + k) w m)
  unfolding field
  number w e h = ap f row ∙ e ∙ field-part a n k w m h

  byte : f y ≡ field k 1 (part a n m) → k + 1 ≤ n → f x ≡ get_or m (a + k) 0
  byte e h = ap f row ∙ e ∙ field-part a n k 1 m h ∙ field_byte (a + k) m

module _ (m : List ℕ) (i : ℕ) where
  module _ (h : i < NODES) where
    abbrev node_row : ℕ
    node_row = nodes_at + i * node_width

    pub node-id : (node_at (mem_of m).nodes i).id ≡ decode (part (nodes_at + i * node_width) 8 m)
    unfolding node_of
    node-id = rw add-zero at (number (λ n. n.id) m node_row node_width 0 (node_at_lem m i h) 8 refl (omega arith))

    pub node-parent : (node_at (mem_of m).nodes i).parent ≡ decode (part (nodes_at + i * node_width + 8) 8 m)
    unfolding node_of
    node-parent = number (λ n. n.parent) m node_row node_width 8 (node_at_lem m i h) 8 refl (omega arith)

    pub node-kind : (node_at (mem_of m).nodes i).kind ≡ get_or m (nodes_at + i * node_width + 16) 0
    unfolding node_of
    node-kind = byte (λ n. n.kind) m node_row node_width 16 (node_at_lem m i h) refl (omega arith)

    pub node-mode : (node_at (mem_of m).nodes i).mode ≡ get_or m (nodes_at + i * node_width + 17) 0
    unfolding node_of
    node-mode = byte (λ n. n.mode) m node_row node_width 17 (node_at_lem m i h) refl (omega arith)

    pub node-size : (node_at (mem_of m).nodes i).size ≡ decode (part (nodes_at + i * node_width + 18) 4 m)
    unfolding node_of
    node-size = number (λ n. n.size) m node_row node_width 18 (node_at_lem m i h) 4 refl (omega arith)

  module _ (h : i < open_rows) where
    abbrev open_row : ℕ
    open_row = opens_at + i * open_width

    pub open-handle : (open_at (mem_of m).opens i).handle ≡ decode (part (opens_at + i * open_width) 8 m)
    unfolding open_of
    open-handle =
        rw add-zero at (number (λ o. o.handle) m open_row open_width 0 (open_at_lem m i h) 8 refl (omega arith))

    pub open-descriptor : (open_at (mem_of m).opens i).descriptor ≡ decode (part (opens_at + i * open_width + 8) 4 m)
    unfolding open_of
    open-descriptor = number (λ o. o.descriptor) m open_row open_width 8 (open_at_lem m i h) 4 refl (omega arith)

    pub open-rights : (open_at (mem_of m).opens i).rights ≡ get_or m (opens_at + i * open_width + 12) 0
    unfolding open_of
    open-rights = byte (λ o. o.rights) m open_row open_width 12 (open_at_lem m i h) refl (omega arith)

    pub open-cursor : (open_at (mem_of m).opens i).cursor ≡ decode (part (opens_at + i * open_width + 16) 4 m)
    unfolding open_of
    open-cursor = number (λ o. o.cursor) m open_row open_width 16 (open_at_lem m i h) 4 refl (omega arith)

  module _ (h : i < MAPS) where
    abbrev map_row : ℕ
    map_row = maps_at + i * map_width

    pub map-address : (map_at (mem_of m).maps i).address ≡ decode (part (maps_at + i * map_width) 8 m)
    unfolding map_of
    map-address = rw add-zero at (number (λ r. r.address) m map_row map_width 0 (map_at_lem m i h) 8 refl (omega arith))

    pub map-size : (map_at (mem_of m).maps i).size ≡ decode (part (maps_at + i * map_width + 8) 4 m)
    unfolding map_of
    map-size = number (λ r. r.size) m map_row map_width 8 (map_at_lem m i h) 4 refl (omega arith)
