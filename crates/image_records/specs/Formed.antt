-- The form's `get` and records by their places find the same: which bytes are parsed, and what is parsed.
-- Assumes nothing.
use Rattle.std.specs.Prelude.{ℕ, ◌+◌, ◌*◌, ◌≤◌, ◌≡◌, true, List, length}
use Rattle.filesystem.specs.Tables.{NODES}
use Rattle.filesystem.specs.Image.{Layout}
use Rattle.image_records.specs.Records.{node_count, records_end, digest_count, marked_from}

-- The image's form says where its sections stand.
pub record Formed (y : Layout) (s : List ℕ) : Type 0 where
  pub four : 4 ≤ length s
  pub count : node_count s ≤ NODES
  pub within : records_end y s + 4 ≤ length s
  pub ends : records_end y s + 4 + digest_count y s * 32 ≡ length s
  pub marked : marked_from y s 4 (node_count s) ≡ true
