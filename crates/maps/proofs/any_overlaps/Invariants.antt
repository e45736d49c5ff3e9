-- `maps::any_overlaps` meets its contract. The invariant says what remains to be done. Assumes nothing.
use mathlib.Core.Path.{◌≡◌}
use lib.ListN.{take, drop}
use Rattle.lists.specs.Search.{any}
use Rattle.memory.specs.Layout.{mem_of}
use Rattle.rules.specs.MapRules.{overlaps}
use Rattle.maps.specs.Judged.{new_map}
use Rattle.maps.proofs.any_overlaps.Given as goal

abbrev pub invariant-loop-i : goal.invariant-loop-i
invariant-loop-i l =
    (any (overlaps (new_map l.address l.size)) (drop l.i (take l.n (mem_of l.m).maps)) ≡ any
    (overlaps (new_map l.address l.size)) (take l.n (mem_of l.m).maps))
