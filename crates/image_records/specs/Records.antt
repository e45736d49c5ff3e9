-- An image's records by their places in its bytes: what the form's `get` finds one after another, found from a place.
--   record_at, record_end, nodes_from, end_from    records from a place on
--   image_nodes, image_digests, formed           what an image holds, and whether it has the form
-- Assumes nothing.
use Rattle.std.specs.Prelude.{ℕ, zero, suc, ◌+◌, ◌*◌, Bool, true, false, ◌&&◌, ◌||◌, not, List, [], ◌∷◌, eqb, leb, length, get_or, drop}
use Rattle.std.proofs.Math.Option.{Option, some, none}
use Rattle.lists.specs.LittleEndian.{decode}
use Rattle.lists.specs.Equal.{equal}
use Rattle.lists.specs.Parts.{part}
use Rattle.lists.specs.Rows.{rows}
use Rattle.filesystem.specs.Tables.{NODES, Node}
use Rattle.filesystem.specs.Paths.{slash}
use Rattle.filesystem.specs.Image.{Layout, maker_bytes, front_length}

-- the fields of the record that stands at a place; the maker, where there is one, stands between mode and size
abbrev pub record_id : ℕ → List ℕ → ℕ → ℕ
record_id w s at = decode (part at w s)

abbrev pub record_parent : ℕ → List ℕ → ℕ → ℕ
record_parent w s at = decode (part (at + w) w s)

abbrev pub record_kind : ℕ → List ℕ → ℕ → ℕ
record_kind w s at = get_or s (at + 2 * w) 0

abbrev pub record_mode : ℕ → List ℕ → ℕ → ℕ
record_mode w s at = get_or s (at + 2 * w + 1) 0

abbrev pub maker_at : Layout → ℕ → ℕ
maker_at y at = at + 2 * y.id_bytes + 2

abbrev pub size_at : Layout → ℕ → ℕ
size_at y at = at + 2 * y.id_bytes + length (maker_bytes y) + 2

unfoldable pub record_at : Layout → List ℕ → ℕ → Node
record_at y s at = record {
  id = record_id y.id_bytes s at;
  parent = record_parent y.id_bytes s at;
  kind = record_kind y.id_bytes s at;
  mode = record_mode y.id_bytes s at;
  size = decode (part (size_at y at) 4 s);
  name = part (size_at y at + 5) (get_or s (size_at y at + 4) 0) s;
}

-- the place behind it
unfoldable pub record_end : Layout → List ℕ → ℕ → ℕ
record_end y s at = at + front_length y + get_or s (size_at y at + 4) 0

-- n records from a place, the place behind them, and whether they have the maker of the layout
unfoldable pub nodes_from : Layout → List ℕ → ℕ → ℕ → List Node
nodes_from y s at zero = []
nodes_from y s at (suc n) = record_at y s at ∷ nodes_from y s (record_end y s at) n

unfoldable pub end_from : Layout → List ℕ → ℕ → ℕ → ℕ
end_from y s at zero = at
end_from y s at (suc n) = end_from y s (record_end y s at) n

abbrev pub is_marked : Layout → List ℕ → ℕ → Bool
is_marked y s at = equal (part (maker_at y at) (length (maker_bytes y)) s) (maker_bytes y)

unfoldable pub marked_from : Layout → List ℕ → ℕ → ℕ → Bool
marked_from y s at zero = true
marked_from y s at (suc n) = is_marked y s at && marked_from y s (record_end y s at) n

-- the first count, the place behind the records, the second count
abbrev pub node_count : List ℕ → ℕ
node_count s = decode (part 0 4 s)

abbrev pub records_end : Layout → List ℕ → ℕ
records_end y s = end_from y s 4 (node_count s)

abbrev pub digest_count : Layout → List ℕ → ℕ
digest_count y s = decode (part (records_end y s) 4 s)

abbrev pub image_nodes : Layout → List ℕ → List Node
image_nodes y s = nodes_from y s 4 (node_count s)

unfoldable pub image_digests : Layout → List ℕ → List (List ℕ)
image_digests y s = rows 32 (digest_count y s) (drop (records_end y s + 4) s)

-- two sections, each after its count, and nothing behind them; at most 256 nodes, each with its maker
unfoldable pub formed : Layout → List ℕ → Bool
formed y s =
    leb 4 (length s)
    && (leb (node_count s) NODES
    && (leb (records_end y s + 4) (length s)
    && (eqb (records_end y s + 4 + digest_count y s * 32) (length s)
    && marked_from y s 4 (node_count s))))

-- a byte that a name may have
abbrev pub plain_byte : ℕ → Bool
plain_byte b = not (eqb b 0 || eqb b slash)

unfoldable pub is_some : {A : Type 0} → Option A → Bool
is_some none = false
is_some (some a) = true
