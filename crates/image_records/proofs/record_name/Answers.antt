-- `image_records::record_name` meets its contract. Assumes nothing.
use native.Mathlib.Omega.{arith}
use mathlib.Core.Path.{◌≡◌, ap₂, ◌∙◌}
use Prim.Native.Nat.{ℕ, ◌+◌, ◌-◌}
use Rattle.lists.specs.Parts.{part}
use Rattle.filesystem.specs.Image.{front_length}
use Rattle.image_records.specs.Laid.{laid}
use Rattle.image_records.specs.Records.{record_end}
use Rattle.image_records.specs.laws.RecordLaws.{record_least}
use Rattle.image_records.specs.laws.TestLaws.{name-part}
use Rattle.image_records.proofs.record_name.Goals as goal

pub overflow_add-start : goal.overflow_add-start
overflow_add-start c =
    let a = c.args in
    omega (arith, record_least (laid a.layout) a.image.now a.at)

pub record_end-end-requires : goal.record_end-end-requires
record_end-end-requires c =
    let a = c.args in
    omega (arith, record_least (laid a.layout) a.image.now a.at)

pub returns : goal.returns
unfolding part
returns c =
    let a = c.args in
    let y = laid a.layout in
    let p = a.at + c.front_length.result in
    let e : p ≡ a.at + front_length y = omega (arith, c.front_length.ensures.0) in
    let f : c.record_end-end.result - p ≡ record_end y a.image.now a.at - (a.at + front_length y) =
    omega (arith, c.record_end-end.ensures.0, e) in
    ap₂ (λ (i n : ℕ). part i n a.image.now) e f ∙ name-part y a.image.now a.at
