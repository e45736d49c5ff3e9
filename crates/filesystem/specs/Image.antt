-- The image that is saved (SPECIFICATION 8), over a layout: its bytes, and which tables are sound.
-- Assumes nothing.
use Rattle.std.specs.Prelude.{refl, Bool, false, ◌&&◌, ◌||◌, not, List, [], ◌∷◌, ◌++◌, ℕ, zero, suc, ◌+◌, ◌-◌, ◌*◌, ◌^◌, eqb, leb, ltb, length, take, drop}
use Rattle.std.proofs.Math.Option.{Option, some, none}
use Rattle.lists.specs.Pick.{pick}
use Rattle.lists.specs.Equal.{equal}
use Rattle.lists.specs.Search.{every, any, unique}
use Rattle.lists.specs.Form.{Form, bind, whole}
use Rattle.lists.specs.Formats.{num, bytes, then, fixed, as_form, counted, text}
use Rattle.filesystem.specs.Tables.{NODES, PAGES, DIGEST_BYTES, FILE_BYTES, NAME_BYTES, PATH_BYTES, Node, is_file, is_directory, node_at, find_id, pages_for, page_total}
use Rattle.filesystem.specs.Paths.{component_form}

-- how an image is laid out: the bytes of an id, and whether a record has its maker's party
pub record Layout : Type 0 where
  pub id_bytes : ℕ
  pub maker : Bool

-- the image that is saved, where ids have w bytes
abbrev pub saved : ℕ → Layout
saved w = record { id_bytes = w; maker = false }

-- the versions of the image that are loaded, each with its layout
pub data Version : Type 0 where
  current : Version

unfoldable pub layout_of : ℕ → Version → Layout
layout_of w current = saved w

-- the maker's byte, where there is one: every node is the one client's
unfoldable pub maker_bytes : Layout → List ℕ
maker_bytes y = pick y.maker (1 ∷ []) []

-- a node (SPECIFICATION 8.4): id, parent, kind (1), mode (1), perhaps its maker (1), size (4), length of the name
-- (1), name
unfoldable pub node_form : Layout → Form Node
node_form y =
    as_form {A = ℕ × (ℕ × (ℕ × (ℕ × (ℕ × List ℕ))))}
    (λ p. record { id = p.0; parent = p.1.0; kind = p.1.1.0; mode = p.1.1.1.0; size = p.1.1.1.1.0; name = p.1.1.1.1.1 })
    (λ n. (n.id, (n.parent, (n.kind, (n.mode, (n.size, n.name))))))
    (then (num y.id_bytes) λ _. then (num y.id_bytes) λ _. then (num 1) λ _. then (num 1) λ _. fixed (maker_bytes y)
    (then (num 4) λ _. text 1))
    (λ n. refl) (λ p h. refl)

-- two parts, each behind its count of 4 bytes: nodes, and digests of 32 bytes (SPECIFICATION 8.4)
abbrev pub Image : Type 0
Image = List Node × List (List ℕ)

unfoldable pub image_form : Layout → Form Image
image_form y = then (counted 4 (node_form y)) (λ _. counted 4 (bytes DIGEST_BYTES))

-- digests node by node, page by page
unfoldable pub flatten : List (List (List ℕ)) → List (List ℕ)
flatten [] = []
flatten (ds ∷ dss) = ds ++ flatten dss

unfoldable pub divide : List Node → List (List ℕ) → List (List (List ℕ))
divide [] ds = []
divide (n ∷ ns) ds = take (pages_for n.size) ds ∷ divide ns (drop (pages_for n.size) ds)

-- the bytes of a path, found by climbing from parent to parent; `fuel` bounds the climb
unfoldable pub climb : ℕ → List Node → Node → ℕ
climb zero ns n = 0
climb (suc fuel) ns n = pick (eqb n.parent 0) 0 (suc (length n.name) + climb fuel ns (node_at ns (find_id ns n.parent)))

unfoldable pub path_length : List Node → Node → ℕ
path_length ns n = climb NODES ns n

-- does the node lie at or beneath the one with id a, each parent on the way a directory? `fuel` bounds the climb
unfoldable pub lies : ℕ → List Node → ℕ → Node → Bool
lies zero ns a n = false
lies (suc fuel) ns a n =
    let above = is_directory (node_at ns (find_id ns n.parent)) && lies fuel ns a (node_at ns (find_id ns n.parent)) in
    eqb n.id a || above

-- is node b node a, or beneath it?
unfoldable pub beneath : List Node → ℕ → ℕ → Bool
beneath ns a b = lies NODES ns (node_at ns a).id (node_at ns b)

-- the bytes of the path of `name` in the directory in place d
abbrev pub length_in : List Node → ℕ → List ℕ → ℕ
length_in ns d name = path_length ns (node_at ns d) + 1 + length name

-- would a path at or beneath node k pass PATH-BYTES, were it `name` in the directory in place d (36)?
unfoldable pub too_deep : List Node → ℕ → ℕ → List ℕ → Bool
too_deep ns k d name =
    any
    (λ n. lies NODES ns (node_at ns k).id n
    && ltb (PATH_BYTES + path_length ns (node_at ns k)) (path_length ns n + length_in ns d name)) ns

-- the root, which stands first (SPECIFICATION 8.6, as all up to `sound`)
abbrev pub is_root : Node → Bool
is_root n = eqb n.id 1 && (eqb n.kind 2 && (eqb n.parent 0 && equal n.name []))

-- the limits of a node by itself
unfoldable pub in_limits : ℕ → Node → Bool
in_limits w n =
    not (eqb n.id 0) && (ltb n.id (256 ^ w) && (leb n.mode 7
    && (is_file n && leb n.size FILE_BYTES || is_directory n && eqb n.size 0)))

abbrev pub is_named : Node → Bool
is_named n = component_form n.name && leb (length n.name) NAME_BYTES

abbrev pub same_id : Node → Node → Bool
same_id m n = eqb m.id n.id

abbrev pub same_child : Node → Node → Bool
same_child m n = eqb m.parent n.parent && equal m.name n.name

-- sound nodes
unfoldable pub sound_nodes : ℕ → List Node → Bool
sound_nodes w [] = false
sound_nodes w (r ∷ ns) =
    is_root r
    && (leb (suc (length ns)) NODES
    && (every (in_limits w) (r ∷ ns)
    && (every is_named ns
    && (unique same_id (r ∷ ns)
    && (unique same_child (r ∷ ns)
    && (every (lies NODES (r ∷ ns) 1) (r ∷ ns)
    && (every (λ n. leb (path_length (r ∷ ns) n) PATH_BYTES) (r ∷ ns)
    && leb (page_total (r ∷ ns)) PAGES)))))))

-- the second count is the number of pages that the sizes need
unfoldable pub sound : ℕ → Image → Bool
sound w i = sound_nodes w i.0 && eqb (length i.1) (page_total i.0)

unfoldable pub print : Layout → Image → List ℕ
print y i = (image_form y).put i

-- a record up to its name
abbrev pub front_length : Layout → ℕ
front_length y = 2 * y.id_bytes + length (maker_bytes y) + 7

-- how long the image of these nodes is
unfoldable pub records_length : Layout → List Node → ℕ
records_length y [] = 0
records_length y (n ∷ ns) = front_length y + length n.name + records_length y ns

unfoldable pub image_length : Layout → List Node → ℕ
image_length y ns = 8 + records_length y ns + DIGEST_BYTES * page_total ns

-- and that of the longest
unfoldable pub longest_length : Layout → ℕ
longest_length y = 8 + NODES * front_length y + (NODES - 1) * NAME_BYTES + DIGEST_BYTES * PAGES

-- no byte follows; nothing where the image is not sound (84)
unfoldable pub parse : Layout → List ℕ → Option Image
parse y s = bind (whole (image_form y) s) (λ i. pick (sound y.id_bytes i) (some i) none)
