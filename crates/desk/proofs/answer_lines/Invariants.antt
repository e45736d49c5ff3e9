-- `desk::answer_lines` meets its contract: what is answered so far is lines of the text. Assumes nothing.
use Prim.Native.Nat.{◌-◌, ◌≤◌}
use mathlib.Core.Path.{◌≡◌}
use lib.ListN.{length}
use Rattle.desk.specs.Session.{Through}
use Rattle.desk.proofs.answer_lines.Given as goal

abbrev pub invariant-loop-out : goal.invariant-loop-out
invariant-loop-out l =
    Through l.initial.memory l.text l.at l.filled l.memory l.initial.out l.out × (l.at ≤ length l.text) × (l.filled ≤ length l.out)
    × (length l.out ≡ length l.initial.out) × (length l.memory ≡ length l.initial.memory)

abbrev pub decreases-loop-out : goal.decreases-loop-out
decreases-loop-out l = length l.text - l.at
