-- `links::shorten` meets its contract. The invariant: what is left of the way, over arrays alike. Assumes nothing.
use native.Mathlib.Omega.{arith}
use mathlib.Core.Path.{◌≡◌, subst}
use Prim.Native.Nat.{◌-◌, ◌<◌}
use lib.ListN.{length, get_or}
use Rattle.links.specs.Climbs.{Leads}
use Rattle.links.specs.laws.ClimbLaws.{step, alike-after, straight_alike, straight_linked}
use Rattle.links.proofs.shorten.Goals as goal

pub loop-a-preserved : goal.loop-a-preserved
loop-a-preserved c =
    let l = c.loop-a in
    let d = l.invariant.2 in
    let h : 0 < l.a = omega arith in
    let t : l.a < length l.to = omega (arith, d.few, d.to_size) in
    let f : l.a < length l.far = omega (arith, d.few, d.far_size) in
    let (b, v, e) = step l.invariant.3 h in
    let q : b ≡ l.left - get_or l.far l.a 0 = omega arith in
    let k = straight_alike l.to l.far l.a l.left l.invariant.3 h t f in (
      d.inside l.a h (omega arith),
      omega arith,
      straight_linked l.to l.far l.a l.left l.invariant.3 h t f _ d (omega arith),
      k.0 _ _ (subst (Leads l.to l.far (get_or l.to l.a 0)) q v),
      alike-after l.invariant.4 k,
    )
