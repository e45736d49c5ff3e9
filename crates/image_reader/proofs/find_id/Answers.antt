-- `image_reader::find_id` meets its contract. The invariant: what has the id stands from k on. Assumes nothing.
use native.Mathlib.Omega.{arith}
use mathlib.Core.Path.{◌≡◌, ap, ◌∙◌, sym}
use Rattle.links.specs.laws.BucketLaws.{goes_on_lem}
use Rattle.image_reader.specs.Judged.{id_at}
use Rattle.image_reader.proofs.find_id.Goals as goal

pub loop-k-preserved : goal.loop-k-preserved
loop-k-preserved c =
    let a = c.args in
    let l = c.loop-k in
    let f = c.requires.2.falls l.k
    (omega arith) in (
      omega (arith, f, l.invariant.0),
      λ j h e. (goes_on_lem (l.invariant.1 j h e) (λ q. c.if-record_id-id.false (c.record_id.ensures
          ∙ ap (id_at a.layout.id_bytes a.image.now a.starts.now) (sym q) ∙ e))).1,
    )

pub returns : goal.returns
returns c =
    let a = c.args in
    let l = c.loop-k in
    let z : 0 ≡ l.k = omega arith in
    λ j b e. omega (
      arith,
      (goes_on_lem (l.invariant.1 j b e) (λ q. c.if-record_id-id-2.false (c.record_id-2.ensures
          ∙ ap (id_at a.layout.id_bytes a.image.now a.starts.now) (z ∙ sym q) ∙ e))).0,
    )
