-- `tables::put_rows` meets its contract. The loop's invariant: i of the rows are written. Assumes nothing.
use Prim.Native.Nat.{ℕ}
use mathlib.Core.Path.{◌≡◌, refl, sym, ap, ◌∙◌}
use mathlib.Core.List.{List, []}
use native.Mathlib.Omega.{arith}
use lib.ListN.{length, replicate, length-replicate, replicate-append-replicate}
use Rattle.lists.specs.Parts.{overwrite}
use Rattle.lists.specs.PartLaws.{overwrite_none, overwrite_snoc}
use Rattle.memory.specs.Layout.{mem_of, with_digests}
use Rattle.memory.specs.laws.MemLaws.{length_digests}
use Rattle.tables.proofs.put_rows.Goals as goal

pub loop-i-init : goal.loop-i-init
loop-i-init c =
    let a = c.args in
    (omega arith, ap (λ (ds : List (List ℕ)). with_digests ds (mem_of a.m.now)) (sym (overwrite_none [] _ _)), refl)

pub loop-i-preserved : goal.loop-i-preserved
loop-i-preserved c =
    let l = c.loop-i in
    let a = c.args in
    let m = mem_of a.m.now in
    let d = a.d in
    let n : length (replicate l.i d) ≡ l.i = length-replicate l.i d in
    let f = length_digests a.m.now in
    let (x, y, z) = l.invariant in (
      omega arith,
      c.put_digest.ensures.0
          ∙ rw y (ap (λ (ds : List (List ℕ)). with_digests ds m)
          (rw n at (overwrite_snoc [] m.digests a.at (replicate l.i d) d (omega arith))
          ∙ ap (overwrite m.digests a.at) (replicate-append-replicate l.i 1 d))),
      omega (arith, c.put_digest.ensures.1),
    )
