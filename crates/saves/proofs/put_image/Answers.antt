-- `saves::put_image` meets its contract. Assumes nothing.
use native.Mathlib.Omega.{arith}
use mathlib.Core.Path.{ap, ◌∙◌}
use Prim.Native.Nat.{ℕ}
use mathlib.Core.List.{List}
use lib.ListN.{length}
use Rattle.digest.specs.Sha256.{sha256}
use Rattle.rules.specs.Skeleton.{at_front}
use Rattle.saves.specs.laws.SavedLaws.{front_fits, front_is}
use Rattle.saves.proofs.put_image.Goals as goal

pub slice_bounds-seal-end : goal.slice_bounds-seal-end
slice_bounds-seal-end c = front_fits _ _ _ _ c.write_image-l.ensures.out_after
    c.write_image-l.ensures.value

pub slice_bounds-seal-end-2 : goal.slice_bounds-seal-end-2
slice_bounds-seal-end-2 c =
    let f = front_is _ _ _ _ c.write_image-l.ensures.out_after c.write_image-l.ensures.value in
    omega (arith, c.write_image-l.ensures.value, ap length f)

pub returns : goal.returns
returns c =
    let a = c.args in
    let f = front_is _ _ _ _ c.write_image-l.ensures.out_after c.write_image-l.ensures.value in (
      c.write_image-l.ensures.out_after,
      c.put.ensures ∙ ap (λ (b : List ℕ). at_front b a.digest.now) (c.seal-d.ensures
          ∙ ap sha256 f),
      omega (arith, c.write_image-l.ensures.value),
    )
