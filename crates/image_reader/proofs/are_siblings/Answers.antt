-- `image_reader::are_siblings` meets its contract. Assumes nothing.
use native.Mathlib.Omega.{arith}
use mathlib.Core.Path.{◌≡◌, ap₂, sym, ◌∙◌}
use mathlib.Core.Bool.{true, false}
use mathlib.Core.List.{List}
use Prim.Native.Nat.{ℕ}
use lib.Dec.{eqb}
use borrow.Author.Tests.{eq-eqb, ne_eqb}
use Rattle.lists.specs.Equal.{equal}
use Rattle.image_records.specs.Laid.{laid}
use Rattle.image_records.specs.Records.{record_at, record_parent}
use Rattle.image_records.specs.laws.RecordLaws.{record_least}
use Rattle.image_reader.proofs.are_siblings.Goals as goal

pub record_parent-requires : goal.record_parent-requires
record_parent-requires c =
    let a = c.args in
    omega (arith, record_least (laid a.layout) a.image.now a.a)

pub record_parent-requires-2 : goal.record_parent-requires-2
record_parent-requires-2 c =
    let a = c.args in
    omega (arith, record_least (laid a.layout) a.image.now a.b)

pub returns-then-record_parent : goal.returns-then-record_parent
unfolding record_at
returns-then-record_parent c =
    let a = c.args in
    let w = a.layout.id_bytes in
    let e : eqb (record_parent w a.image.now a.a) (record_parent w a.image.now a.b) ≡ false =
    ne_eqb _ _ (λ q. c.if-record_parent.true (c.record_parent.ensures ∙ q
    ∙ sym c.record_parent-2.ensures)) in
    rw e

pub returns : goal.returns
unfolding record_at
returns c =
    let a = c.args in
    let w = a.layout.id_bytes in
    let e : eqb (record_parent w a.image.now a.a) (record_parent w a.image.now a.b) ≡ true =
    eq-eqb _ _ (sym c.record_parent.ensures
    ∙ c.if-record_parent.false ∙ c.record_parent-2.ensures) in
    rw e (c.same.ensures ∙ ap₂ (λ (u v : List ℕ). equal u v) c.record_name-name.ensures
    c.record_name.ensures)
