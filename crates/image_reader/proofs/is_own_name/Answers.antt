-- `image_reader::is_own_name` meets its contract. The invariant: what is a sibling with its name stands from k on.
-- Assumes nothing.
use native.Mathlib.Omega.{arith}
use mathlib.Core.Bool.{false≢true}
use mathlib.Core.List.{List}
use mathlib.Core.Path.{◌≡◌, ap₂, ◌∙◌, sym, subst}
use Prim.Native.Nat.{ℕ, ◌%◌, ◌<◌}
use lib.ListN.{get_or}
use borrow.Author.Tests.{not-true, not-false}
use Rattle.image_records.specs.Laid.{laid}
use Rattle.links.specs.Buckets.{BUCKETS, Holds}
use Rattle.links.specs.laws.BucketLaws.{goes_on_lem}
use Rattle.image_reader.specs.Judged.{node_on, spread, Siblings}
use Rattle.image_reader.specs.laws.PlaceLaws.{located_end, spread_below}
use Rattle.image_reader.specs.laws.ApartLaws.{are_siblings, not_siblings}
use Rattle.image_reader.proofs.is_own_name.Goals as goal

pub bounds-names-b : goal.bounds-names-b
bounds-names-b c =
    let a = c.args in
    let p = c.requires in
    let x = node_on (laid a.layout) a.image.now a.starts.now a.i in
    omega (arith, p.2.size, p.3, spread_below x.name (x.parent % BUCKETS) (omega arith))

pub loop-k-init : goal.loop-k-init
loop-k-init c =
    let a = c.args in
    let p = c.requires in
    let d = p.2 in
    let x = node_on (laid a.layout) a.image.now a.starts.now a.i in (
      subst (λ (b : ℕ). get_or a.names.now b 0 < a.i) (sym p.3)
          (d.firsts _ (spread_below x.name (x.parent % BUCKETS) (omega arith))),
      λ j h e. subst (λ (b : ℕ). Holds a.names.now j (get_or a.names.now b 0))
          (ap₂ (λ (x : ℕ) (l : List ℕ). spread (x % BUCKETS) l) e.0 e.1 ∙ sym p.3) (d.each j h),
    )

pub are_siblings-requires : goal.are_siblings-requires
are_siblings-requires c =
    let p = c.requires in
    let l = c.loop-k in (
      located_end p.1 l.k (omega (arith, l.invariant.0)),
      located_end p.1
          c.args.i (omega arith),
    )

pub returns-then-are_siblings : goal.returns-then-are_siblings
returns-then-are_siblings c =
    let a = c.args in
    let l = c.loop-k in
    let node = node_on (laid a.layout) a.image.now a.starts.now in (
      λ e. absurd (false≢true e),
      λ e. (
        l.k,
        l.invariant.0,
        are_siblings (node l.k) (node a.i)
            (sym c.are_siblings.ensures ∙ c.if-are_siblings.true),
      ),
    )

pub loop-k-preserved : goal.loop-k-preserved
loop-k-preserved c =
    let a = c.args in
    let l = c.loop-k in
    let node = node_on (laid a.layout) a.image.now a.starts.now in
    let f = c.requires.2.falls
    l.k (omega arith) in
    let n = not_siblings (node l.k) (node a.i)
    (sym c.are_siblings.ensures ∙ c.if-are_siblings.false) in (
      omega (arith, f, l.invariant.0),
      λ j h e. (goes_on_lem (l.invariant.1 j h e) (λ q. n (subst (λ (x : ℕ). Siblings (node x) (node a.i)) q e))).1,
    )

pub are_siblings-requires-2 : goal.are_siblings-requires-2
are_siblings-requires-2 c =
    let p = c.requires in (
      located_end p.1 0 (omega (arith, p.0)),
      located_end p.1
          c.args.i (omega arith),
    )

pub returns : goal.returns
returns c =
    let a = c.args in
    let l = c.loop-k in
    let node = node_on (laid a.layout) a.image.now a.starts.now in
    let z : l.k ≡ 0 = omega arith in
    let s = c.are_siblings-2.ensures in (
      λ e j h u. omega (
        arith,
        (goes_on_lem (l.invariant.1 j h u) (λ q. not_siblings (node 0) (node a.i) (sym s ∙ not-true _ e)
            (subst (λ (x : ℕ). Siblings (node x) (node a.i)) (q ∙ z) u))).0,
      ),
      λ e. (
        0,
        c.requires.0,
        are_siblings (node 0)
            (node a.i) (sym s ∙ not-false _ e),
      ),
    )
