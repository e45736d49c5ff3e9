-- `image_reader::place_parents` meets its contract. The invariant: the parents of the records before k are placed.
-- Assumes nothing.
use native.Mathlib.Omega.{arith}
use mathlib.Core.Bool.{false≢true}
use mathlib.Core.Path.{ap, ◌∙◌, sym}
use Prim.Native.Nat.{◌+◌}
use lib.ListN.{length}
use Rattle.image_records.specs.Laid.{laid}
use Rattle.image_records.specs.Records.{record_at}
use Rattle.links.specs.laws.ParentLaws.{placed-next}
use Rattle.image_reader.specs.Judged.{node_on}
use Rattle.image_reader.specs.laws.PlaceLaws.{located_end, located_front, standing}
use Rattle.image_reader.specs.laws.RootedLaws.{not_placed}
use Rattle.image_reader.proofs.place_parents.Goals as goal

pub record_parent-id-requires : goal.record_parent-id-requires
record_parent-id-requires c = omega (arith, located_front c.requires.1 c.loop-k.k (omega arith))

pub find_directory-requires : goal.find_directory-requires
unfolding record_at
find_directory-requires c =
    let p = c.requires in
    (p.0, standing c.args.layout.is_layout p.1, p.2, p.3.ids)

pub returns-in_default : goal.returns-in_default
unfolding record_at
returns-in_default c =
    let l = c.loop-k in
    let q = c.record_parent-id.ensures in (
      λ e. absurd (false≢true e),
      λ e t. not_placed c.requires.1 t l.k (omega arith) (omega arith) (λ j b u. c.in_default.ensures j b (u ∙ sym q)),
    )

pub record_name-name-requires : goal.record_name-name-requires
record_name-name-requires c = located_end c.requires.1 c.loop-k.k (omega arith)

pub loop-k-preserved : goal.loop-k-preserved
unfolding record_at
loop-k-preserved c =
    let a = c.args in
    let l = c.loop-k in
    let node = node_on (laid a.layout) a.image.now a.starts.now in
    let f = c.in-Some.ensures in
    let e = ap length c.record_name-name.ensures in
    placed-next node l.to l.far a.n l.k c.in-Some.parent (1 + length c.record_name-name.result.now) l.invariant
    (omega (arith, c.requires.1.few)) f.0 (f.1 ∙ c.record_parent-id.ensures) f.2 (omega (arith, e))
