-- Remove's and rmdir's own checks, on the places that their walks give.
-- Assumes nothing.
use Rattle.std.specs.Prelude.{not, List, [], ◌∷◌, ℕ, eqb, ltb, length}
use Rattle.lists.specs.Checks.{decide}
use Rattle.filesystem.specs.Tables.{Node, Tables, node_at, is_directory, has_bit, children}
use Rattle.rules.specs.Rules.{is_open}
use Rattle.refusals.specs.Numbers.{Judged}
use Rattle.std.specs.Prelude.{Ok, Err}

-- on the node in place k and the directory in place d that holds it
unfoldable pub remove_own : Tables → (k d : ℕ) → Judged ℕ
remove_own t k d =
    decide Err
    ((21, is_directory (node_at t.nodes k)) ∷ (13, not (has_bit 2 (node_at t.nodes d)))
    ∷ (16, is_open t (node_at t.nodes k)) ∷ [])
    (Ok k)

unfoldable pub rmdir_own : List Node → (k d : ℕ) → Judged ℕ
rmdir_own ns k d =
    decide Err
    ((16, eqb k 0)
    ∷ (20, not (is_directory (node_at ns k)))
    ∷ (13, not (has_bit 2 (node_at ns d)))
    ∷ (39, ltb 0 (length (children ns (node_at ns k).id)))
    ∷ [])
    (Ok k)
