-- `maps::find` meets its contract. The invariant: the place is i and the place in what remains. Assumes nothing.
use mathlib.Core.Path.{◌≡◌}
use Prim.Native.Nat.{◌+◌}
use lib.ListN.{take, drop}
use Rattle.lists.specs.Search.{place}
use Rattle.memory.specs.Layout.{mem_of}
use Rattle.rules.specs.MapRules.{starts_at}
use Rattle.maps.proofs.find.Given as goal

abbrev pub invariant-loop-i : goal.invariant-loop-i
invariant-loop-i l =
    (place (starts_at l.address) (take l.n (mem_of l.m).maps) ≡ l.i + place (starts_at l.address)
    (drop l.i (take l.n (mem_of l.m).maps)))
