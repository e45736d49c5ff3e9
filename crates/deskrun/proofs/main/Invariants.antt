-- `deskrun::main` is safe: what is kept of the input fits in the text. Assumes nothing.
use Rattle.std.proofs.Common.{◌≤◌}
use Rattle.deskrun.proofs.main.Given as goal

abbrev pub invariant-loop : goal.invariant-loop
invariant-loop l = l.kept ≤ 19383
