-- `vectors::monte::thousand` meets its contract. a, b and c are the digests i, i + 1 and i + 2.
-- Assumes nothing.
use Rattle.std.proofs.Common.{◌≡◌, ◌+◌}
use Rattle.vectors.specs.Monte.{MD}
use Rattle.vectors.proofs.monte.thousand.Given as goal

abbrev pub invariant-loop : goal.invariant-loop
invariant-loop l =
    (l.a ≡ MD l.initial.a l.counter) × (l.b ≡ MD l.initial.a (l.counter + 1)) × (l.c ≡ MD l.initial.a (l.counter + 2))
