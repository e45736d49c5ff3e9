-- `vectors::monte::thousand` meets its contract. a, b and c are the digests i, i + 1 and i + 2.
-- Assumes nothing.
use Rattle.std.proofs.Common.{◌≡◌, ◌+◌, ap, ◌∙◌, arith}
use Rattle.vectors.specs.Monte.{MD}
use Rattle.vectors.specs.laws.MonteLaws.{seeds, next}
use Rattle.vectors.proofs.monte.thousand.Goals as goal

pub loop-init : goal.loop-init
loop-init c = seeds c.args.seed

pub loop-preserved : goal.loop-preserved
loop-preserved c =
    let l = c.loop in
    let i = l.counter in
    let two : i + 2 ≡ i + 1 + 1 = omega arith in (
      l.invariant.1,
      l.invariant.2 ∙ ap (MD c.args.seed) two,
      c.sha256-d.ensures ∙ rw (c.joined-m.ensures, l.invariant.0, l.invariant.1, l.invariant.2) (next c.args.seed i),
    )
