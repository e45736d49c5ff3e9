-- `paths::parts_form` meets its contract. The invariant: the whole has the form that what stands from `at` on has, with
-- what was
-- long before; the first part of it ends at `end`. Assumes nothing.
use Prim.Native.Nat.{◌+◌, ◌≤◌, ◌-◌}
use mathlib.Core.Path.{◌≡◌}
use lib.Dec.{ltb}
use lib.ListN.{length, drop}
use Rattle.lists.specs.Search.{place}
use Rattle.filesystem.specs.Tables.{PATH_BYTES}
use Rattle.filesystem.specs.Paths.{split}
use Rattle.paths.specs.Parts.{is_end}
use Rattle.paths.specs.PathForms.{parts_form}
use Rattle.paths.proofs.parts_form.Given as goal

abbrev pub invariant-loop-end : goal.invariant-loop-end
invariant-loop-end l =
    (l.at ≤ l.end)
    × (l.end ≤ length l.path)
    × (l.end ≡ l.at + place is_end (drop l.at l.path))
    × (parts_form (ltb PATH_BYTES (length l.path)) (split (drop 1 l.path)) ≡ parts_form l.long (split (drop l.at l.path)))

abbrev pub decreases-loop-end : goal.decreases-loop-end
decreases-loop-end l = length l.path - l.end
