-- `image_reader::takes_id` meets its contract. Assumes nothing.
use native.Mathlib.Omega.{arith}
use mathlib.Core.Bool.{true≢false}
use mathlib.Core.Path.{◌≡◌, ap, ◌∙◌, sym, subst}
use Prim.Native.Nat.{ℕ, ◌+◌, ◌%◌}
use mathlib.Core.List.{List}
use Rattle.std.specs.Prelude.{Option, Some, None, MatchOption, false}
use Rattle.std.specs.Option.{is_some}
use Rattle.links.specs.Buckets.{BUCKETS, Indexed, inserted}
use Rattle.links.specs.laws.BucketLaws.{inserted_indexed}
use Rattle.image_reader.specs.Judged.{id_key}
use Rattle.image_reader.proofs.takes_id.Goals as goal

none-found : (o : Option ℕ) (P : Type 0) (Q : ℕ → Type 0) → MatchOption o P Q → is_some o ≡ false → P
none-found None P Q p e = p
none-found (Some k) P Q q e = absurd (true≢false e)

pub returns : goal.returns
returns c =
    let a = c.args in
    let p = c.requires in
    let s = a.image.now in
    let key = id_key a.layout.id_bytes s a.starts.now in
    let r = c.record_id-id.ensures in
    let d = inserted_indexed a.ids.now key a.i p.2 (λ j. omega arith) (omega (arith, p.1.few)) p.0 in
    let e = c.insert.ensures ∙ ap (λ (x : ℕ). inserted a.ids.now (x % BUCKETS) a.i) r in record {
      own_id = (
        λ t j h q. none-found c.find_id.result _ _ c.find_id.ensures (sym c.if-is_some.ensures) j h (q ∙ sym r),
        λ t. absurd (true≢false t),
      );
      indexed = λ t. subst (λ (x : List ℕ). Indexed x key (a.i + 1)) (sym e) d;
    }
