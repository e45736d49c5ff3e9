-- What a write into each area does to the memory's view, and what stands at a place of it.
-- Assumes nothing.
use Rattle.std.specs.Prelude.{ℕ, ◌+◌, ◌*◌, ◌%◌, ◌^◌, ◌<◌, ◌≤◌, ◌≡◌, refl, ◌&&◌, eqb, take}
use Rattle.std.proofs.Common.{sym, ◌∙◌, zero-add, add_assoc, add-mul, mul-le-mul_right, arith, eqb-true}
use Rattle.std.proofs.Math.Path.{ap}
use mathlib.Core.List.{List, []}
use Rattle.std.proofs.Math.ListN.{length, get_or, set}
use Rattle.std.proofs.lemmas.Bool.{eqb-false}
use Rattle.lists.specs.Equal.{equal, equal-no, and-true, and-false, Is, is, is_t, is_f}
use Rattle.lists.specs.LittleEndian.{encode, decode, length-encode}
use Rattle.lists.specs.Parts.{part, overwrite}
use Rattle.lists.specs.PartLaws.{length_part, part-part}
use Rattle.lists.specs.Rows.{rows, table}
use Rattle.lists.specs.TableLaws.{length-table, table_overwrite, table-set, table_within, table_at, table-move}
use Rattle.lists.specs.MapParts.{map_same}
use Rattle.lists.specs.Areas.{total, areas}
use Rattle.lists.specs.AreaLaws.{areas_overwrite}
use Rattle.filesystem.specs.Tables.{Node, OpenFile, NODES, PAGES, NAME_BYTES, no_node, no_open_file, node_at, open_at}
use Rattle.filesystem.specs.Tables.{with_mode, with_size, with_cursor, set_mode, set_size, set_cursor}
use Rattle.filesystem.specs.MemoryMaps.{Map, MAPS, map_at, no_map}
use Rattle.memory.specs.Records.{map_of, map_width}
use Rattle.memory.specs.Records.{field, set_field, row_name, node_of, node_width, open_of, open_width}
use Rattle.memory.specs.laws.RecordLaws.{field-part, field_byte, node-with_mode, node-with_size, open_with_cursor}
use Rattle.memory.specs.Layout.{mem_of, mem_from, memory_size, area_sizes, head_numbers, open_rows, digest_width}
use Rattle.memory.specs.Layout.{staging_size, data_size, new_digests, nodes_at, opens_at, digests_at, staging_at}
use Rattle.memory.specs.Layout.{with_head, with_nodes, with_opens, with_digests, with_staged, maps_at, with_maps}

-- One law for each area: a write of x at b of the area changes that field of the view as it changes the area, and
-- leaves the others.
module _ (m x : List ℕ) (fits : memory_size ≤ length m) (b : ℕ) where
  written : (at k : ℕ) → at ≡ total (take k area_sizes) + b → k < 6 → b + length x ≤ get_or area_sizes k 0
      → mem_of (overwrite m at x) ≡ mem_from (set (areas 0 area_sizes m) k (overwrite (get_or (areas 0 area_sizes m) k []) b
      x))
  unfolding mem_of
  written at k e h g = ap mem_from (areas_overwrite m at x area_sizes 0 k b (omega arith) h g fits)

  in_head : (y : List ℕ) → b + length x ≤ nodes_at → table decode 8 head_numbers (overwrite (part 0 nodes_at m) b x) ≡ y
      → mem_of (overwrite m b x) ≡ with_head y (mem_of m)
  unfolding mem_of mem_from
  in_head y h e = written b 0 (omega arith) (omega arith) h ∙ ap (λ (r : List ℕ). with_head r (mem_of m)) e

  in_nodes : (y : List Node) → b + length x ≤ NODES * node_width
      → table node_of node_width NODES (overwrite (part nodes_at (NODES * node_width) m) b x) ≡ y
      → mem_of (overwrite m (nodes_at + b) x) ≡ with_nodes y (mem_of m)
  unfolding mem_of mem_from
  in_nodes y h e = written (nodes_at + b) 1 (omega arith) (omega arith) h ∙ ap (λ (r : List Node). with_nodes r (mem_of m))
      e

  in_opens : (y : List OpenFile) → b + length x ≤ open_rows * open_width
      → table open_of open_width open_rows (overwrite (part opens_at (open_rows * open_width) m) b x) ≡ y
      → mem_of (overwrite m (opens_at + b) x) ≡ with_opens y (mem_of m)
  unfolding mem_of mem_from
  in_opens y h e = written (opens_at + b) 2 (omega arith) (omega arith) h
      ∙ ap (λ (r : List OpenFile). with_opens r (mem_of m)) e

  pub in_digests : (y : List (List ℕ)) → b + length x ≤ PAGES * digest_width
      → table (λ r. r) digest_width PAGES (overwrite (part digests_at (PAGES * digest_width) m) b x) ≡ y
      → mem_of (overwrite m (digests_at + b) x) ≡ with_digests y (mem_of m)
  unfolding mem_of mem_from
  in_digests y h e = written (digests_at + b) 3 (omega arith) (omega arith) h
      ∙ ap (λ (r : List (List ℕ)). with_digests r (mem_of m)) e

  pub mem_staged : b + length x ≤ staging_size → mem_of (overwrite m (staging_at + b) x) ≡ with_staged
      (overwrite (mem_of m).staged b x) (mem_of m)
  unfolding mem_of mem_from
  mem_staged h = written (staging_at + b) 4 (omega arith) (omega arith) h

  in_maps : (y : List Map) → b + length x ≤ MAPS * map_width
      → table map_of map_width MAPS (overwrite (part maps_at (MAPS * map_width) m) b x) ≡ y
      → mem_of (overwrite m (maps_at + b) x) ≡ with_maps y (mem_of m)
  unfolding mem_of mem_from
  in_maps y h e = written (maps_at + b) 5 (omega arith) (omega arith) h ∙ ap (λ (r : List Map). with_maps r (mem_of m)) e

-- rows and parts of rows
module _ (m x : List ℕ) (fits : memory_size ≤ length m) (i : ℕ) where
  whole : (a n : ℕ) → a + n ≤ memory_size → n ≤ length (part a n m)
  whole a n h = let e : length (part a n m) ≡ n = length_part a n m (omega arith) in omega arith

  pub mem_number : length x ≡ 8 → i < head_numbers → mem_of (overwrite m (i * 8) x) ≡ with_head
      (set (mem_of m).head i (decode x)) (mem_of m)
  unfolding mem_of mem_from
  mem_number e h = in_head m x fits (i * 8) _ (omega arith) (table-set decode 8 head_numbers (part 0 nodes_at m) i x e h
      (whole 0 nodes_at (omega arith)))

  pub mem_node : length x ≡ node_width → i < NODES → mem_of (overwrite m (nodes_at + i * node_width) x) ≡ with_nodes
      (set (mem_of m).nodes i (node_of x)) (mem_of m)
  unfolding mem_of mem_from
  mem_node e h = in_nodes m x fits (i * node_width) _ (omega arith)
      (table-set node_of node_width NODES (part nodes_at (NODES * node_width) m) i x e h (whole nodes_at (NODES * node_width)
      (omega arith)))

  pub mem_node_field : (k : ℕ) → k + length x ≤ node_width → i < NODES
      → mem_of (overwrite m (nodes_at + i * node_width + k) x) ≡ with_nodes
      (set (mem_of m).nodes i (node_of (overwrite (part (nodes_at + i * node_width) node_width m) k x))) (mem_of m)
  unfolding mem_of mem_from
  mem_node_field k e h =
      ap (λ (a : ℕ). mem_of (overwrite m a x)) (add_assoc nodes_at (i * node_width) k)
      ∙ in_nodes m x fits (i * node_width + k) _ (omega arith)
      (table_within node_of node_width NODES (part nodes_at (NODES * node_width) m) i k x e h
      (whole nodes_at (NODES * node_width) (omega arith))
      ∙ ap (λ (r : List ℕ). set (mem_of m).nodes i (node_of (overwrite r k x))) (part-part nodes_at (NODES * node_width)
      (i * node_width) node_width m (omega arith)))

  pub mem_open : length x ≡ open_width → i < open_rows → mem_of (overwrite m (opens_at + i * open_width) x) ≡ with_opens
      (set (mem_of m).opens i (open_of x)) (mem_of m)
  unfolding mem_of mem_from
  mem_open e h = in_opens m x fits (i * open_width) _ (omega arith) (table-set open_of open_width open_rows
      (part opens_at (open_rows * open_width) m) i x e h (whole opens_at (open_rows * open_width) (omega arith)))

  pub mem_open_field : (k : ℕ) → k + length x ≤ open_width → i < open_rows
      → mem_of (overwrite m (opens_at + i * open_width + k) x) ≡ with_opens
      (set (mem_of m).opens i (open_of (overwrite (part (opens_at + i * open_width) open_width m) k x))) (mem_of m)
  unfolding mem_of mem_from
  mem_open_field k e h =
      ap (λ (a : ℕ). mem_of (overwrite m a x)) (add_assoc opens_at (i * open_width) k)
      ∙ in_opens m x fits (i * open_width + k) _ (omega arith)
      (table_within open_of open_width open_rows (part opens_at (open_rows * open_width) m) i k x e h
      (whole opens_at (open_rows * open_width) (omega arith))
      ∙ ap (λ (r : List ℕ). set (mem_of m).opens i (open_of (overwrite r k x))) (part-part opens_at (open_rows * open_width)
      (i * open_width) open_width m (omega arith)))

  pub mem_digest : length x ≡ digest_width → i < PAGES
      → mem_of (overwrite m (digests_at + i * digest_width) x) ≡ with_digests (set (mem_of m).digests i x) (mem_of m)
  unfolding mem_of mem_from
  mem_digest e h = in_digests m x fits (i * digest_width) _ (omega arith) (table-set (λ r. r) digest_width PAGES
      (part digests_at (PAGES * digest_width) m) i x e h (whole digests_at (PAGES * digest_width) (omega arith)))

  pub mem-map : length x ≡ map_width → i < MAPS → mem_of (overwrite m (maps_at + i * map_width) x) ≡ with_maps
      (set (mem_of m).maps i (map_of x)) (mem_of m)
  unfolding mem_of mem_from
  mem-map e h = in_maps m x fits (i * map_width) _ (omega arith) (table-set map_of map_width MAPS
      (part maps_at (MAPS * map_width) m) i x e h (whole maps_at (MAPS * map_width) (omega arith)))

-- rows moved within their table
module _ (m : List ℕ) (fits : memory_size ≤ length m) (from to n : ℕ) where
  size : (a w c : ℕ) → from + n ≤ c → a + c * w ≤ memory_size → length (part (a + from * w) (n * w) m) ≡ n * w
  size a w c h f =
      let e : from * w + n * w ≤ c * w = rw add-mul at (mul-le-mul_right {m = from + n} {n = c} w h) in
      length_part (a + from * w) (n * w) m (omega arith)

  pub mem_nodes_move : from + n ≤ NODES → to + n ≤ NODES
      → mem_of (overwrite m (nodes_at + to * node_width) (part (nodes_at + from * node_width) (n * node_width) m)) ≡ with_nodes
      (overwrite (mem_of m).nodes to (part from n (mem_of m).nodes)) (mem_of m)
  unfolding mem_of mem_from
  mem_nodes_move h g =
      let e = size nodes_at node_width NODES h (omega arith) in
      in_nodes m (part (nodes_at + from * node_width) (n * node_width) m) fits (to * node_width) _ (omega arith)
      (table-move node_of node_width NODES nodes_at m from to n h g (omega arith))

  pub mem_opens_move : from + n ≤ open_rows → to + n ≤ open_rows
      → mem_of (overwrite m (opens_at + to * open_width) (part (opens_at + from * open_width) (n * open_width) m)) ≡ with_opens
      (overwrite (mem_of m).opens to (part from n (mem_of m).opens)) (mem_of m)
  unfolding mem_of mem_from
  mem_opens_move h g =
      let e = size opens_at open_width open_rows h (omega arith) in
      in_opens m (part (opens_at + from * open_width) (n * open_width) m) fits (to * open_width) _ (omega arith)
      (table-move open_of open_width open_rows opens_at m from to n h g (omega arith))

  pub mem_digests_move : from + n ≤ PAGES → to + n ≤ PAGES
      → mem_of (overwrite m (digests_at + to * digest_width) (part (digests_at + from * digest_width) (n * digest_width) m)) ≡
      with_digests (overwrite (mem_of m).digests to (part from n (mem_of m).digests)) (mem_of m)
  unfolding mem_of mem_from
  mem_digests_move h g =
      let e = size digests_at digest_width PAGES h (omega arith) in
      in_digests m (part (digests_at + from * digest_width) (n * digest_width) m) fits (to * digest_width) _ (omega arith)
      (table-move (λ r. r) digest_width PAGES digests_at m from to n h g (omega arith))

  pub mem_maps_move : from + n ≤ MAPS → to + n ≤ MAPS
      → mem_of (overwrite m (maps_at + to * map_width) (part (maps_at + from * map_width) (n * map_width) m)) ≡ with_maps
      (overwrite (mem_of m).maps to (part from n (mem_of m).maps)) (mem_of m)
  unfolding mem_of mem_from
  mem_maps_move h g =
      let e = size maps_at map_width MAPS h (omega arith) in
      in_maps m (part (maps_at + from * map_width) (n * map_width) m) fits (to * map_width) _ (omega arith)
      (table-move map_of map_width MAPS maps_at m from to n h g (omega arith))

-- n digests of the staging area, from its byte 4,096 on, kept as digests from i on
module _ (m : List ℕ) (fits : memory_size ≤ length m) (i n : ℕ) where
  pub mem_keep : i + n ≤ PAGES → n ≤ new_digests
      → mem_of (overwrite m (digests_at + i * digest_width) (part (staging_at + data_size) (n * digest_width) m)) ≡
      with_digests (overwrite (mem_of m).digests i
      (rows digest_width n (part data_size (n * digest_width) (mem_of m).staged))) (mem_of m)
  unfolding mem_of mem_from
  mem_keep h g =
      let x = part (staging_at + data_size) (n * digest_width) m in
      let b = part digests_at (PAGES * digest_width) m in
      let e : length x ≡ n * digest_width = length_part (staging_at + data_size) (n * digest_width) m (omega arith) in
      let f : length b ≡ PAGES * digest_width = length_part digests_at (PAGES * digest_width) m (omega arith) in
      in_digests m x fits (i * digest_width) _ (omega arith)
      (table_overwrite (λ r. r) digest_width PAGES b i n x e h (omega arith)
      ∙ ap (overwrite (mem_of m).digests i) (map_same (rows digest_width n x)
      ∙ ap (rows digest_width n) (sym (part-part staging_at staging_size data_size (n * digest_width) m (omega arith)))))

-- what stands in a place
no_node_lem : node_of [] ≡ no_node
unfolding node_of row_name field part decode
no_node_lem = refl

no_open : open_of [] ≡ no_open_file
unfolding open_of field part decode
no_open = refl

no_map_lem : map_of [] ≡ no_map
unfolding map_of field part decode
no_map_lem = refl

module _ (m : List ℕ) (i : ℕ) where
  pub head_at : i < head_numbers → get_or (mem_of m).head i 0 ≡ decode (part (i * 8) 8 m)
  unfolding mem_of mem_from decode
  head_at h = table_at decode 8 head_numbers 0 m i h ∙ rw (zero-add (i * 8))

  pub node_at_lem : i < NODES → node_at (mem_of m).nodes i ≡ node_of (part (nodes_at + i * node_width) node_width m)
  unfolding mem_of mem_from node_at
  node_at_lem h = ap (get_or (mem_of m).nodes i) (sym no_node_lem) ∙ table_at node_of node_width NODES nodes_at m i h

  pub node-name : i < NODES → (node_at (mem_of m).nodes i).name ≡ part (nodes_at + i * node_width + 23)
      (get_or m (nodes_at + i * node_width + 22) 0 % 33) m
  unfolding node_of row_name
  node-name h =
      let a = nodes_at + i * node_width in
      let e : field 22 1 (part a node_width m) ≡ get_or m (a + 22) 0 = field-part a node_width 22 1 m (omega arith)
      ∙ field_byte (a + 22) m in
      ap (λ (n : Node). n.name) (node_at_lem h)
      ∙ part-part a node_width 23 (field 22 1 (part a node_width m) % 33) m (omega arith)
      ∙ ap (λ (k : ℕ). part (a + 23) (k % 33) m) e

  -- a name, by as many of the row's bytes as it has, and then by its length
  pub name_is : (s : List ℕ) → i < NODES → memory_size ≤ length m
      → equal (node_at (mem_of m).nodes i).name s ≡ (equal (part (nodes_at + i * node_width + 23) (length s) m) s && eqb
      (get_or m (nodes_at + i * node_width + 22) 0 % 33) (length s))
  name_is s h f = rw (node-name h) (go (is (eqb n (length s))))
    where
      a : ℕ
      a = nodes_at + i * node_width

      n : ℕ
      n = get_or m (a + 22) 0 % 33

      go : Is (eqb n (length s)) → equal (part (a + 23) n m) s ≡ (equal (part (a + 23) (length s) m) s && eqb n
          (length s))
      go (is_t e) = rw (e, ← eqb-true n (length s) e, and-true)
      go (is_f e) =
          let l : length (part (a + 23) n m) ≡ n = length_part (a + 23) n m (omega arith) in
          rw (e, and-false) (equal-no _ s (λ q. eqb-false n (length s) e (sym l ∙ ap length q)))

  pub open_at_lem : i < open_rows → open_at (mem_of m).opens i ≡ open_of (part (opens_at + i * open_width) open_width m)
  unfolding mem_of mem_from open_at
  open_at_lem h = ap (get_or (mem_of m).opens i) (sym no_open) ∙ table_at open_of open_width open_rows opens_at m i h

  pub digest-at : i < PAGES → get_or (mem_of m).digests i [] ≡ part (digests_at + i * digest_width) digest_width m
  unfolding mem_of mem_from
  digest-at h = table_at (λ r. r) digest_width PAGES digests_at m i h

  pub map_at_lem : i < MAPS → map_at (mem_of m).maps i ≡ map_of (part (maps_at + i * map_width) map_width m)
  unfolding mem_of mem_from map_at
  map_at_lem h = ap (get_or (mem_of m).maps i) (sym no_map_lem) ∙ table_at map_of map_width MAPS maps_at m i h

  pub staged_at : (n : ℕ) → i + n ≤ staging_size → part i n (mem_of m).staged ≡ part (staging_at + i) n m
  unfolding mem_of mem_from
  staged_at n h = part-part staging_at staging_size i n m h

-- a field set in its row
module _ (m : List ℕ) (fits : memory_size ≤ length m) (i x : ℕ) where
  pub mem_mode : i < NODES → x < 256 → mem_of (overwrite m (nodes_at + i * node_width + 17) (encode 1 x)) ≡ with_nodes
      (set_mode (mem_of m).nodes i x) (mem_of m)
  unfolding set_mode set_field
  mem_mode h f =
      let r = part (nodes_at + i * node_width) node_width m in
      let e : length r ≡ node_width = length_part (nodes_at + i * node_width) node_width m (omega arith) in
      let n : length (encode 1 x) ≡ 1 = length-encode 1 x in
      mem_node_field m (encode 1 x) fits i 17 (omega arith) h
      ∙ ap (λ (y : Node). with_nodes (set (mem_of m).nodes i y) (mem_of m)) (node-with_mode x r (omega arith) f
      ∙ ap (with_mode x) (sym (node_at_lem m i h)))

  pub mem_size : i < NODES → x < 256 ^ 4 → mem_of (overwrite m (nodes_at + i * node_width + 18) (encode 4 x)) ≡ with_nodes
      (set_size (mem_of m).nodes i x) (mem_of m)
  unfolding set_size set_field
  mem_size h f =
      let r = part (nodes_at + i * node_width) node_width m in
      let e : length r ≡ node_width = length_part (nodes_at + i * node_width) node_width m (omega arith) in
      let n : length (encode 4 x) ≡ 4 = length-encode 4 x in
      mem_node_field m (encode 4 x) fits i 18 (omega arith) h
      ∙ ap (λ (y : Node). with_nodes (set (mem_of m).nodes i y) (mem_of m)) (node-with_size x r (omega arith) f
      ∙ ap (with_size x) (sym (node_at_lem m i h)))

  pub mem_cursor : i < open_rows → x < 256 ^ 4
      → mem_of (overwrite m (opens_at + i * open_width + 16) (encode 4 x)) ≡ with_opens (set_cursor (mem_of m).opens i x)
      (mem_of m)
  unfolding set_cursor set_field
  mem_cursor h f =
      let r = part (opens_at + i * open_width) open_width m in
      let e : length r ≡ open_width = length_part (opens_at + i * open_width) open_width m (omega arith) in
      let n : length (encode 4 x) ≡ 4 = length-encode 4 x in
      mem_open_field m (encode 4 x) fits i 16 (omega arith) h
      ∙ ap (λ (y : OpenFile). with_opens (set (mem_of m).opens i y) (mem_of m)) (open_with_cursor x r (omega arith) f
      ∙ ap (with_cursor x) (sym (open_at_lem m i h)))

-- how many there are
module _ (m : List ℕ) where
  pub length_head : length (mem_of m).head ≡ head_numbers
  unfolding mem_of mem_from
  length_head = length-table decode 8 head_numbers (part 0 nodes_at m)

  pub length-nodes : length (mem_of m).nodes ≡ NODES
  unfolding mem_of mem_from
  length-nodes = length-table node_of node_width NODES (part nodes_at (NODES * node_width) m)

  pub length-opens : length (mem_of m).opens ≡ open_rows
  unfolding mem_of mem_from
  length-opens = length-table open_of open_width open_rows (part opens_at (open_rows * open_width) m)

  pub length_digests : length (mem_of m).digests ≡ PAGES
  unfolding mem_of mem_from
  length_digests = length-table (λ r. r) digest_width PAGES (part digests_at (PAGES * digest_width) m)

  pub length_maps : length (mem_of m).maps ≡ MAPS
  unfolding mem_of mem_from
  length_maps = length-table map_of map_width MAPS (part maps_at (MAPS * map_width) m)

  pub length-digest : (i : ℕ) → i < PAGES → memory_size ≤ length m → length (get_or (mem_of m).digests i []) ≡ digest_width
  length-digest i h f = ap length (digest-at m i h) ∙ length_part (digests_at + i * digest_width) digest_width m
      (omega arith)

  pub length-name : (i : ℕ) → i < NODES → memory_size ≤ length m → length (node_at (mem_of m).nodes i).name ≤ NAME_BYTES
  length-name i h f =
      let n = get_or m (nodes_at + i * node_width + 22) 0 % 33 in
      let e : length (part (nodes_at + i * node_width + 23) n m) ≡ n = length_part (nodes_at + i * node_width + 23) n m
      (omega arith) in
      rw (node-name m i h) (omega arith)

  pub length-staged : memory_size ≤ length m → length (mem_of m).staged ≡ staging_size
  unfolding mem_of mem_from
  length-staged h = length_part staging_at staging_size m (omega arith)
