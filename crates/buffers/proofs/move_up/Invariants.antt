-- `buffers::move_up` meets its contract. Assumes nothing.
use mathlib.Core.Path.{◌≡◌}
use Prim.Native.Nat.{◌+◌, ◌-◌, ◌*◌}
use lib.ListN.{length}
use Rattle.lists.specs.Parts.{part, overwrite}
use Rattle.buffers.proofs.move_up.Given as goal

abbrev pub invariant-loop-i : goal.invariant-loop-i
invariant-loop-i g l =
    let done = g.row.N * l.i in (length l.m ≡ length l.initial.m)
    × (l.m ≡ overwrite l.initial.m (l.to + done) (part (l.from + done) (g.row.N * l.n - done) l.initial.m))
