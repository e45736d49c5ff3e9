-- A record's row reads as the record; a field that is set changes that field only.
-- Assumes nothing.
use Rattle.std.specs.Prelude.{ℕ, ◌+◌, ◌-◌, ◌%◌, ◌^◌, ◌≤◌, ◌<◌, ◌≡◌, List, [], ◌∷◌, ◌++◌, get_or, drop, replicate}
use Rattle.std.proofs.Math.Path.{refl, sym, ap}
use Rattle.std.proofs.Common.{◌∙◌, arith}
use Rattle.std.proofs.Math.ListN.{length, take}
use Rattle.std.proofs.Math.Seq.{take-append_seam}
use Rattle.lists.specs.LittleEndian.{encode, decode, length-encode, decode-encode}
use Rattle.lists.specs.NumberParts.{decode-first, decode_none}
use Rattle.lists.specs.Parts.{part, overwrite}
use Rattle.lists.specs.PartLaws.{part-part, part-before, part-after, part_within, length_part, overwrite_all}
use Rattle.lists.specs.PartLaws.{overwrite_front, overwrite_behind}
use Rattle.filesystem.specs.Tables.{Node, OpenFile, new_node, with_mode, with_size, with_cursor}
use Rattle.memory.specs.Records.{field, set_field, row_name, node_of, node_front, node_row, open_of, open_row, node_width}
use Rattle.filesystem.specs.MemoryMaps.{Map}
use Rattle.memory.specs.Records.{open_width, map_of, map_row}

-- fields
pub field-part : (a n at w : ℕ) (l : List ℕ) → at + w ≤ n → field at w (part a n l) ≡ field (a + at) w l
unfolding field
field-part a n at w l h = ap decode (part-part a n at w l h)

-- one byte, read and written
pub field_byte : (at : ℕ) (l : List ℕ) → field at 1 l ≡ get_or l at 0
unfolding field
field_byte at l = rw (decode-first 0 at l, decode_none (at + 1) l) (omega arith)

pub encode_byte : (x : ℕ) → x < 256 → encode 1 x ≡ x ∷ []
unfolding encode
encode_byte x h = let e : x % 256 ≡ x = omega arith in rw e

module _ (at w x : ℕ) (r : List ℕ) where
  pub field_same : at + w ≤ length r → x < 256 ^ w → field at w (set_field at w x r) ≡ x
  unfolding field set_field
  field_same h f =
      let n : length (encode w x) ≡ w = length-encode w x in
      ap decode (part_within r at (encode w x) at w 0 (omega arith) (omega arith) h
      ∙ overwrite_all (part at w r) (encode w x) (length_part at w r h ∙ sym n))
      ∙ decode-encode w x f

  -- a part before or behind the field
  pub kept-before : (a n : ℕ) → at + w ≤ length r → a + n ≤ at → part a n (set_field at w x r) ≡ part a n r
  unfolding set_field
  kept-before a n h g = let e : length (encode w x) ≡ w = length-encode w x in part-before r at (encode w x) a n g
      (omega arith)

  pub kept-after : (a n : ℕ) → at + w ≤ length r → at + w ≤ a → part a n (set_field at w x r) ≡ part a n r
  unfolding set_field
  kept-after a n h g = let e : length (encode w x) ≡ w = length-encode w x in part-after r at (encode w x) a n
      (omega arith) (omega arith)

-- a node's row, whatever follows the length byte
decode-one : (x : ℕ) → decode (x ∷ []) ≡ x
unfolding decode
decode-one x = omega arith

module _ (id parent kind mode size n : ℕ) where
  pub length_front : length (node_front id parent kind mode size n) ≡ 23
  unfolding node_front encode
  length_front = refl

  pub read-node : (q : List ℕ) → id < 256 ^ 8 → parent < 256 ^ 8 → size < 256 ^ 4
      → node_of (node_front id parent kind mode size n ++ q) ≡ with_size size
      (new_node id parent kind mode (take (n % 33) q))
  unfolding node_front node_of row_name field part encode
  read-node q hi hp hs =
      λ k. record {
        id = decode-encode 8 id hi k;
        parent = decode-encode 8 parent hp k;
        kind = decode-one kind k;
        mode = decode-one mode k;
        size = decode-encode 4 size hs k;
        name = take (decode-one n k % 33) q;
      }

-- a name at the front of what follows
pub name-read : (s t : List ℕ) → length s ≤ 32 → take (length s % 33) (s ++ t) ≡ s
name-read s t h = let m : length s % 33 ≡ length s = omega arith in rw m (take-append_seam s t)

-- the front and a name written over a row
pub written-node : (id parent kind mode size : ℕ) (s z : List ℕ) → id < 256 ^ 8 → parent < 256 ^ 8 → size < 256 ^ 4
    → length s ≤ 32
    → node_of (overwrite (overwrite z 0 (node_front id parent kind mode size (length s))) 23 s) ≡ with_size size
    (new_node id parent kind mode s)
written-node id parent kind mode size s z hi hp hs h =
    let f = node_front id parent kind mode size (length s) in
    let q = drop (length f) z in
    ap (λ (r : List ℕ). node_of (overwrite r 23 s)) (overwrite_front z f)
    ∙ ap node_of (overwrite_behind f q s 23 (length_front id parent kind mode size (length s)))
    ∙ read-node id parent kind mode size (length s) (s ++ drop (length s) q) hi hp hs
    ∙ ap (λ (t : List ℕ). with_size size (new_node id parent kind mode t)) (name-read s (drop (length s) q) h)

-- what a node's fields have room for
pub record NodeFits (n : Node) : Type 0 where
  pub id_fits : n.id < 256 ^ 8
  pub parent_fits : n.parent < 256 ^ 8
  pub size_fits : n.size < 256 ^ 4
  pub name_fits : length n.name ≤ 32

pub node_of-row : (n : Node) → NodeFits n → node_of (node_row n) ≡ n
unfolding node_row
node_of-row n f =
    read-node n.id n.parent n.kind n.mode n.size (length n.name) (n.name
    ++ replicate (33 - length n.name) 0) f.id_fits f.parent_fits f.size_fits
    ∙ ap (λ (s : List ℕ). with_size n.size (new_node n.id n.parent n.kind n.mode s))
    (name-read n.name (replicate (33 - length n.name) 0) f.name_fits)

-- a node's mode, its size
module _ (x : ℕ) (r : List ℕ) (fits : node_width ≤ length r) where
  pub node-with_mode : x < 256 → node_of (set_field 17 1 x r) ≡ with_mode x (node_of r)
  unfolding node_of row_name field
  node-with_mode h =
      rw (
        kept-before 17 1 x r 0 8 (omega arith) (omega arith),
        kept-before 17 1 x r 8 8 (omega arith) (omega arith),
        kept-before 17 1 x r 16 1 (omega arith) (omega arith),
        kept-after 17 1 x r 18 4 (omega arith) (omega arith),
        kept-after 17 1 x r 22 1 (omega arith) (omega arith),
        kept-after 17 1 x r 23 (decode (part 22 1 r) % 33) (omega arith) (omega arith),
      )
      (ap (λ (k : ℕ). with_mode k (node_of r)) (field_same 17 1 x r (omega arith) h))

  pub node-with_size : x < 256 ^ 4 → node_of (set_field 18 4 x r) ≡ with_size x (node_of r)
  unfolding node_of row_name field
  node-with_size h =
      rw (
        kept-before 18 4 x r 0 8 (omega arith) (omega arith),
        kept-before 18 4 x r 8 8 (omega arith) (omega arith),
        kept-before 18 4 x r 16 1 (omega arith) (omega arith),
        kept-before 18 4 x r 17 1 (omega arith) (omega arith),
        kept-after 18 4 x r 22 1 (omega arith) (omega arith),
        kept-after 18 4 x r 23 (decode (part 22 1 r) % 33) (omega arith) (omega arith),
      )
      (ap (λ (k : ℕ). with_size k (node_of r)) (field_same 18 4 x r (omega arith) h))

-- what an open file's fields have room for
pub record OpenFits (o : OpenFile) : Type 0 where
  pub handle_fits : o.handle < 256 ^ 8
  pub descriptor_fits : o.descriptor < 256 ^ 4
  pub cursor_fits : o.cursor < 256 ^ 4

pub open_of-row : (hint : ℕ) (o : OpenFile) → OpenFits o → open_of (open_row hint o) ≡ o
unfolding open_of open_row field part encode
open_of-row hint o f =
    λ k. record {
      handle = decode-encode 8 o.handle f.handle_fits k;
      descriptor = decode-encode 4 o.descriptor f.descriptor_fits k;
      rights = decode-one o.rights k;
      cursor = decode-encode 4 o.cursor f.cursor_fits k;
    }

pub open_with_cursor : (x : ℕ) (r : List ℕ) → open_width ≤ length r → x < 256 ^ 4
    → open_of (set_field 16 4 x r) ≡ with_cursor x (open_of r)
unfolding open_of field
open_with_cursor x r fits h =
    rw (
      kept-before 16 4 x r 0 8 (omega arith) (omega arith),
      kept-before 16 4 x r 8 4 (omega arith) (omega arith),
      kept-before 16 4 x r 12 1 (omega arith) (omega arith),
    )
    (ap (λ (k : ℕ). with_cursor k (open_of r)) (field_same 16 4 x r (omega arith) h))

pub map_of-row : (m : Map) → m.address < 256 ^ 8 → m.size < 256 ^ 4 → map_of (map_row m) ≡ m
unfolding map_of map_row field part encode
map_of-row m a s = λ k. record { address = decode-encode 8 m.address a k; size = decode-encode 4 m.size s k }
