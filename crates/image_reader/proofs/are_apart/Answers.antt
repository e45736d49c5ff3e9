-- `image_reader::are_apart` meets its contract. The invariant: the first i records stand apart, and are found.
-- Assumes nothing.
use native.Mathlib.Omega.{arith}
use mathlib.Core.Bool.{true≢false, false≢true}
use mathlib.Core.Path.{refl, ◌∙◌, sym}
use Prim.Native.Nat.{◌+◌}
use lib.ListN.{replicate}
use Rattle.lists.specs.Equal.{and_fst, and_snd}
use Rattle.lists.specs.Cells.{zeros}
use Rattle.filesystem.specs.Image.{in_limits}
use Rattle.image_records.specs.Laid.{laid}
use Rattle.links.specs.laws.BucketLaws.{empty_indexed}
use Rattle.image_records.specs.Records.{record_at}
use Rattle.image_reader.specs.Judged.{node_on}
use Rattle.image_reader.specs.laws.PlaceLaws.{located_end, located_less, standing, standing-less}
use Rattle.image_reader.specs.laws.ApartLaws.{apart_first, apart_next, sound_stands, sound_ids, sound_siblings}
use Rattle.image_reader.proofs.are_apart.Goals as goal

pub loop-i-init : goal.loop-i-init
loop-i-init c =
    let a = c.args in
    let p = c.requires in
    let y = laid a.layout in (
      apart_first a.layout.id_bytes (node_on y a.image.now a.starts.now) p.3,
      p.2,
      empty_indexed (replicate 512 0) refl (zeros 512),
    )

pub stands-requires : goal.stands-requires
stands-requires c = let p = c.requires in
    located_end p.1 c.loop-i.i (omega arith)

pub returns-then-not-stands : goal.returns-then-not-stands
returns-then-not-stands c =
    let l = c.loop-i in (
      λ e. absurd (false≢true e),
      λ e t. true≢false (sym (sound_stands c.requires.1
          t l.i (omega arith) (omega arith))
          ∙ sym c.stands.ensures ∙ c.if-not-stands.true),
    )

pub takes_id-requires : goal.takes_id-requires
takes_id-requires c =
    let p = c.requires in
    let l = c.loop-i in
    (omega arith, standing-less (l.i + 1) (omega arith) (standing c.args.layout.is_layout p.1), l.invariant.1)

pub returns-then-not-takes_id : goal.returns-then-not-takes_id
unfolding record_at
returns-then-not-takes_id c =
    let l = c.loop-i in (
      λ e. absurd (false≢true e),
      λ e t.
          let (j, h, q) = c.takes_id.ensures.own_id.1 c.if-not-takes_id.true in
          omega (
            arith,
            sound_ids c.requires.1 t j l.i (omega arith) (omega arith) q,
          ),
    )

pub takes_name-requires : goal.takes_name-requires
takes_name-requires c =
    let p = c.requires in
    let l = c.loop-i in
    (omega arith, located_less p.1 (l.i + 1) (omega arith), l.invariant.2)

pub returns-then-not-takes_name : goal.returns-then-not-takes_name
returns-then-not-takes_name c =
    let l = c.loop-i in (
      λ e. absurd (false≢true e),
      λ e t.
          let (j, h, q) = c.takes_name.ensures.own_name.1 c.if-not-takes_name.true in
          omega (
            arith,
            sound_siblings c.requires.1 t j l.i (omega arith)
                (omega arith) q,
          ),
    )

pub loop-i-preserved : goal.loop-i-preserved
unfolding record_at
loop-i-preserved c =
    let a = c.args in
    let l = c.loop-i in
    let node = node_on (laid a.layout) a.image.now a.starts.now in
    let s = sym c.stands.ensures
    ∙ c.if-not-stands.false in
    let i = c.takes_id.ensures in
    let n = c.takes_name.ensures in
    let u = c.if-not-takes_id.false in
    let v = c.if-not-takes_name.false in (
      apart_next a.layout.id_bytes node l.i l.invariant.0 (and_fst _ _ s)
          (and_snd (in_limits a.layout.id_bytes (node l.i)) _ s)
          (i.own_id.0 u)
          (n.own_name.0 v),
      i.indexed u,
      n.indexed v,
    )
