-- `buffers::move_down` meets its contract. Assumes nothing.
use mathlib.Core.Path.{◌≡◌}
use Prim.Native.Nat.{◌*◌}
use lib.ListN.{length}
use Rattle.lists.specs.Parts.{part, overwrite}
use Rattle.buffers.proofs.move_down.Given as goal

abbrev pub invariant-loop-i : goal.invariant-loop-i
invariant-loop-i g l = (length l.m ≡ length l.initial.m)
    × (l.m ≡ overwrite l.initial.m l.to (part l.from (g.row.N * l.i) l.initial.m))
