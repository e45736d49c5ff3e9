-- Places in buckets: byte b of an index is the first place of bucket b, byte 256 + k the place behind place k. Place 0
-- stands last in every bucket.
--   inserted x b i      place i, put first into bucket b
--   Holds x j k         from place k on, the bucket has place j
--   Indexed x key i     each of the first i places stands in the bucket of its key
-- Assumes nothing.
use Rattle.std.specs.Prelude.{◌≡◌, List, ℕ, ◌+◌, ◌<◌, length, get_or, set}
use Rattle.filesystem.specs.Tables.{NODES}

abbrev pub BUCKETS : ℕ
BUCKETS = 256

unfoldable pub inserted : List ℕ → (b i : ℕ) → List ℕ
inserted x b i = set (set x (BUCKETS + i) (get_or x b 0)) b i

pub data Holds (x : List ℕ) (j : ℕ) : ℕ → Type 0 where
  here : Holds x j j
  behind : {k : ℕ} → 0 < k → Holds x j (get_or x (BUCKETS + k) 0) → Holds x j k

pub record Indexed (x : List ℕ) (key : ℕ → ℕ) (i : ℕ) : Type 0 where
  pub size : length x ≡ BUCKETS + NODES
  pub each : (j : ℕ) → j < i → Holds x j (get_or x (key j) 0)
  -- what is linked stands in an earlier place, so that a search ends
  pub firsts : (b : ℕ) → b < BUCKETS → get_or x b 0 < i
  pub falls : (k : ℕ) → 0 < k → get_or x (BUCKETS + k) 0 < k
