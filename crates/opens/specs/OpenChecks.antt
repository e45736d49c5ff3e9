-- Open's own checks, on the place that its walk gives.
-- Assumes nothing.
use Rattle.std.specs.Prelude.{not, [], ◌∷◌, ℕ, leb, length}
use Rattle.lists.specs.Checks.{decide}
use Rattle.filesystem.specs.Tables.{OPEN_FILES, Tables, node_at, is_directory}
use Rattle.filesystem.specs.Rights.{covers}
use Rattle.rules.specs.Rules.{is_open}
use Rattle.refusals.specs.Numbers.{Judged}
use Rattle.std.specs.Prelude.{Ok, Err}

-- on the node in place k
unfoldable pub open_own : Tables → (k rights : ℕ) → Judged ℕ
open_own t k r =
    decide Err
    ((21, is_directory (node_at t.nodes k))
    ∷ (13, not (covers (node_at t.nodes k).mode r))
    ∷ (16, is_open t (node_at t.nodes k))
    ∷ (24, leb OPEN_FILES (length t.opens))
    ∷ [])
    (Ok k)
