-- `links::climb` meets its contract. The invariant says how far the climb has come. Assumes nothing.
use native.Mathlib.Omega.{arith}
use mathlib.Core.Path.{◌≡◌, subst}
use Prim.Native.Nat.{ℕ, ◌+◌}
use Rattle.links.specs.Climbs.{Leads, root}
use Rattle.links.specs.laws.ClimbLaws.{onward-step, onward-long}
use Rattle.links.proofs.climb.Goals as goal

pub returns-then-total-gt-PATH_BYTES : goal.returns-then-total-gt-PATH_BYTES
returns-then-total-gt-PATH_BYTES c =
    let a = c.args in
    let l = c.loop-a in
    onward-long a.to.now a.far.now a.k l.a l.total l.invariant.2 (omega arith) (omega arith)

pub loop-a-preserved : goal.loop-a-preserved
loop-a-preserved c =
    let p = c.requires.1 in
    let a = c.args in
    let l = c.loop-a in (
      p.inside l.a (omega arith) (omega arith),
      omega arith,
      onward-step a.to.now a.far.now a.k l.a l.total l.invariant.2 (omega arith),
    )

pub returns : goal.returns
returns c =
    let a = c.args in
    let l = c.loop-a in
    let z : 0 ≡ l.a = omega arith in
    let e : l.total + 0 ≡ l.total = omega arith in (
      omega arith,
      subst (Leads a.to.now a.far.now a.k) e
          (l.invariant.2.0 0 (subst (λ (k : ℕ). Leads a.to.now a.far.now k 0) z root)),
    )
