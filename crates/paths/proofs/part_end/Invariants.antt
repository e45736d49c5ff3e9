-- `paths::part_end` meets its contract. The invariant: the search from `at` is the search from i. Assumes nothing.
use Prim.Native.Nat.{◌+◌, ◌≤◌}
use mathlib.Core.Path.{◌≡◌}
use lib.ListN.{length, drop}
use Rattle.lists.specs.Search.{place}
use Rattle.paths.specs.Parts.{is_end}
use Rattle.paths.proofs.part_end.Given as goal

abbrev pub invariant-loop-i : goal.invariant-loop-i
invariant-loop-i l = (l.at ≤ l.i) × (l.i ≤ length l.path) × (l.at + place is_end (drop l.at l.path) ≡ l.i + place is_end (drop l.i l.path))
