-- A walk that keeps the directory of its last step.
-- Assumes nothing.
use Rattle.std.specs.Prelude.{List, ℕ, Ok, Err}
use Rattle.filesystem.specs.Tables.{Node}
use Rattle.filesystem.specs.Paths.{Path, parent_of}
use Rattle.paths.specs.Walks.{walked}
use Rattle.refusals.specs.Numbers.{Judged}
use Rattle.path_calls.specs.declared.Way.{Way}

-- node k, which directory d holds
abbrev pub at_way : (k d : ℕ) → Judged Way
at_way k d = Ok (record { node = k; parent = d })

unfoldable pub way_of : ℕ → Judged ℕ → Judged Way
way_of d (Ok k) = at_way k d
way_of d (Err b) = Err b

unfoldable pub walked_both : List Node → Path → Judged Way
walked_both ns p = way_of (parent_of ns 0 p) (walked ns p)
