-- `deskrun::answer_all` is safe and ends: each turn answers a line or more. Assumes nothing.
use Rattle.std.proofs.Common.{length, ◌≤◌}
use Rattle.deskrun.proofs.answer_all.Given as goal

abbrev pub invariant-loop-out : goal.invariant-loop-out
invariant-loop-out g l = length l.rest ≤ length l.text

abbrev pub decreases-loop-out : goal.decreases-loop-out
decreases-loop-out g l = length l.rest
