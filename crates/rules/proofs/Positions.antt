-- Where seek may put a cursor.
-- Assumes nothing.
use Rattle.std.specs.Prelude.{◌↔◌, ℕ, ◌≤◌, ◌<◌, length}
use Rattle.std.proofs.Common.{leb-false, ltb-false, le-ltb}
use Rattle.std.proofs.lemmas.Bool.{lt-leb}
use Rattle.lists.specs.All.{both, none as all_none}
use Rattle.lists.specs.Checks.{Passed}
use Rattle.filesystem.specs.Tables.{Tables, node_at, find_id, find_handle}
use Rattle.rules.specs.Calls.{seek}
use Rattle.rules.specs.Rules.{call_checks}

-- the positions that seek accepts are the cursors that the state property allows
pub seek_exactly : (t : Tables) (h n : ℕ)
    → Passed (call_checks t (seek h n)) ↔ ((find_handle t.opens h < length t.opens) × (n ≤ (node_at t.nodes (find_id t.nodes h)).size))
unfolding call_checks
seek_exactly t h n = (to, λ (o, l). both (lt-leb _ _ o) (both (le-ltb _ _ l) all_none))
  where
    to : Passed (call_checks t (seek h n)) → (find_handle t.opens h < length t.opens) × (n ≤ (node_at t.nodes (find_id t.nodes h)).size)
    to (both o (both l _)) = (leb-false _ _ o, ltb-false _ _ l)
