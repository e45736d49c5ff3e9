-- `image_reader::takes_name` meets its contract. Assumes nothing.
use native.Mathlib.Omega.{arith}
use mathlib.Core.Bool.{true≢false}
use mathlib.Core.List.{List}
use mathlib.Core.Path.{ap, ◌∙◌, sym, subst}
use Prim.Native.Nat.{ℕ, ◌+◌}
use Rattle.image_records.specs.Laid.{laid}
use Rattle.links.specs.Buckets.{Indexed, inserted}
use Rattle.links.specs.laws.BucketLaws.{inserted_indexed}
use Rattle.image_reader.specs.Judged.{name_key}
use Rattle.image_reader.specs.laws.PlaceLaws.{located_end, located_front, spread_below, name_key_lem}
use Rattle.image_reader.proofs.takes_name.Goals as goal

pub record_parent-parent-requires : goal.record_parent-parent-requires
record_parent-parent-requires c =
    let p = c.requires in
    omega (arith, located_front p.1 c.args.i (omega arith))

pub record_name-requires : goal.record_name-requires
record_name-requires c = let p = c.requires in
    located_end p.1 c.args.i (omega arith)

pub is_own_name-requires : goal.is_own_name-requires
is_own_name-requires c =
    let a = c.args in
    let p = c.requires in (
      p.0,
      p.1,
      p.2,
      name_key_lem (laid a.layout) a.image.now a.starts.now a.i c.name_bucket-b.ensures.0
          c.record_parent-parent.ensures c.record_name.ensures,
    )

pub returns : goal.returns
returns c =
    let a = c.args in
    let p = c.requires in
    let y = laid a.layout in
    let key = name_key y a.image.now a.starts.now in
    let k = name_key_lem y a.image.now a.starts.now a.i
    c.name_bucket-b.ensures.0
    c.record_parent-parent.ensures
    c.record_name.ensures in
    let d = inserted_indexed a.names.now key a.i p.2 (λ j. spread_below _ _ (omega arith))
    (omega (arith, p.1.few)) p.0 in
    let e = c.insert.ensures ∙ ap (λ (b : ℕ). inserted a.names.now b a.i) k in record {
      own_name = (
        λ t. c.is_own_name.ensures.0
            c.if-not-is_own_name.false,
        λ t. absurd (true≢false t),
      );
      indexed = λ t. subst (λ (x : List ℕ). Indexed x key (a.i + 1)) (sym e) d;
    }
