-- What is judged of an image's records, one against another.
--   node_on, id_at            the record in place k, and its id; `starts` has where each stands in the bytes
--   Located, Standing       `starts` has that of the first n records; what is needed of it to read their ids and kinds
--   id_key, name_key          the bucket of a record by its id, and by its parent and name
--   Found                   r is the place of an id among the first i, or none has it; Directory, of a directory
--   OwnId, OwnName          whether record i has an id, or a name among siblings, that none before it has
--   OwnIds                  the ids of the first n differ
--   Judges r w ns F         F where r; where not, the nodes are not sound
--   Apart, Rooted           what the passes find: records that stand apart, ways to the root
-- Assumes nothing.
use Rattle.std.specs.Prelude.{Bool, true, false, Option, MatchOption, List, [], ◌∷◌, ◌≡◌, length, get_or}
use Rattle.std.specs.Prelude.{ℕ, ◌+◌, ◌*◌, ◌%◌, ◌≤◌, ◌<◌}
use Rattle.filesystem.specs.Tables.{NODES, PATH_BYTES, Node}
use Rattle.filesystem.specs.Image.{Layout, in_limits, is_named}
use Rattle.filesystem.specs.Sound.{Sound}
use Rattle.filesystem.specs.Ways.{Way, bytes}
use Rattle.links.specs.Buckets.{BUCKETS}
use Rattle.image_records.specs.Records.{record_id, record_kind, record_at, end_from}

abbrev pub node_on : Layout → (s starts : List ℕ) → ℕ → Node
node_on y s starts k = record_at y s (get_or starts k 0)

abbrev pub id_at : ℕ → (s starts : List ℕ) → ℕ → ℕ
id_at w s starts k = record_id w s (get_or starts k 0)

abbrev pub kind_at : ℕ → (s starts : List ℕ) → ℕ → ℕ
kind_at w s starts k = record_kind w s (get_or starts k 0)

pub record Located (y : Layout) (s starts : List ℕ) (n : ℕ) : Type 0 where
  pub few : n ≤ NODES
  pub size : length starts ≡ NODES
  pub inside : end_from y s 4 n ≤ length s
  pub places : (k : ℕ) → k < n → get_or starts k 0 ≡ end_from y s 4 k

pub record Standing (w : ℕ) (s starts : List ℕ) (n : ℕ) : Type 0 where
  pub narrow : w ≤ 8
  pub few : n ≤ NODES
  pub size : length starts ≡ NODES
  pub inside : (k : ℕ) → k < n → get_or starts k 0 + 2 * w + 1 ≤ length s

-- a bucket for a name in a directory; any would do, this one parts names that differ in a byte
unfoldable pub spread : ℕ → List ℕ → ℕ
spread b [] = b
spread b (x ∷ xs) = spread ((b * 31 + x) % BUCKETS) xs

abbrev pub name_bucket : Node → ℕ
name_bucket n = spread (n.parent % BUCKETS) n.name

abbrev pub id_key : ℕ → (s starts : List ℕ) → ℕ → ℕ
id_key w s starts k = id_at w s starts k % BUCKETS

abbrev pub name_key : Layout → (s starts : List ℕ) → ℕ → ℕ
name_key y s starts k = name_bucket (node_on y s starts k)

abbrev pub Found : (ℕ → ℕ) → (i id : ℕ) → Option ℕ → Type 0
Found ids i id r = MatchOption r ((j : ℕ) → j < i → ids j ≡ id → ⊥) (λ k. (k < i) × (ids k ≡ id))

abbrev pub OwnId : (ℕ → ℕ) → ℕ → Bool → Type 0
OwnId ids i r = (r ≡ true → (j : ℕ) → j < i → ids j ≡ ids i → ⊥) × (r ≡ false → (j : ℕ) × (j < i) × (ids j ≡ ids i))

abbrev pub OwnIds : (ℕ → ℕ) → ℕ → Type 0
OwnIds ids n = (i j : ℕ) → i < n → j < n → ids i ≡ ids j → i ≡ j

abbrev pub Siblings : Node → Node → Type 0
Siblings m n = (m.parent ≡ n.parent) × (m.name ≡ n.name)

abbrev pub OwnName : (ℕ → Node) → ℕ → Bool → Type 0
OwnName node i r =
    (r ≡ true → (j : ℕ) → j < i → Siblings (node j) (node i) → ⊥)
    × (r ≡ false → (j : ℕ) × (j < i) × Siblings (node j) (node i))

abbrev pub Directory : ℕ → (s starts : List ℕ) (n id : ℕ) → Option ℕ → Type 0
Directory w s starts n id r =
    MatchOption r ((j : ℕ) → j < n → id_at w s starts j ≡ id → kind_at w s starts j ≡ 2 → ⊥)
    (λ k. (k < n) × (id_at w s starts k ≡ id) × (kind_at w s starts k ≡ 2))

abbrev pub Judges : Bool → ℕ → List Node → Type 0 → Type 0
Judges r w ns F = (r ≡ true → F) × (r ≡ false → Sound w ns → ⊥)

pub record Apart (w : ℕ) (node : ℕ → Node) (n : ℕ) : Type 0 where
  pub limits : (k : ℕ) → k < n → in_limits w (node k) ≡ true
  pub names : (k : ℕ) → 0 < k → k < n → is_named (node k) ≡ true
  pub ids : (i j : ℕ) → i < n → j < n → (node i).id ≡ (node j).id → i ≡ j
  pub siblings : (i j : ℕ) → i < n → j < n → Siblings (node i) (node j) → i ≡ j

abbrev pub Rooted : List Node → Type 0
Rooted ns = (k : ℕ) → k < length ns → (v : Way ns 0 k) × (bytes v ≤ PATH_BYTES)
