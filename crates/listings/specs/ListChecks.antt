-- Readdir's own checks, on the place that its walk gives.
-- Assumes nothing.
use Rattle.std.specs.Prelude.{not, List, [], ◌∷◌, ℕ}
use Rattle.lists.specs.Checks.{decide}
use Rattle.filesystem.specs.Tables.{Node, node_at, is_directory, has_bit}
use Rattle.refusals.specs.Numbers.{Judged}
use Rattle.std.specs.Prelude.{Ok, Err}

-- on the node in place k
unfoldable pub readdir_own : List Node → (k : ℕ) → Judged ℕ
readdir_own ns k = decide Err ((20, not (is_directory (node_at ns k))) ∷ (13, not (has_bit 4 (node_at ns k))) ∷ [])
    (Ok k)
