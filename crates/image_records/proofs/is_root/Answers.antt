-- `image_records::is_root` meets its contract. Assumes nothing.
use native.Mathlib.Omega.{arith}
use mathlib.Core.Path.{◌≡◌, ap, sym, ◌∙◌}
use Rattle.image_records.specs.Laid.{laid}
use Rattle.image_records.specs.Records.{record_at}
use mathlib.Core.Bool.{true, false}
use lib.Dec.{eqb}
use borrow.Author.Tests.{eq-eqb, ne_eqb}
use Rattle.image_records.specs.laws.RecordLaws.{record_least}
use mathlib.Core.List.{List}
use Prim.Native.Nat.{ℕ}
use lib.ListN.{length}
use Rattle.image_records.specs.laws.TestLaws.{no_bytes}
use Rattle.image_records.proofs.is_root.Goals as goal

pub record_id-requires : goal.record_id-requires
record_id-requires c = let h = record_least (laid c.args.layout)
    c.args.image.now c.args.at in omega
    (arith, h)

pub returns-then-record_id-ne1 : goal.returns-then-record_id-ne1
unfolding record_at
returns-then-record_id-ne1 c =
    let a = c.args in
    let x = record_at (laid a.layout) a.image.now a.at in let e : eqb x.id 1 ≡ false = ne_eqb _ _
    (λ q. c.if-record_id-ne1.true (c.record_id.ensures ∙ q)) in rw e

pub record_kind-requires : goal.record_kind-requires
record_kind-requires c =
    let a = c.args in
    let h = record_least (laid a.layout) a.image.now a.at in omega (arith, h)

pub returns-then-record_kind-ne-DIRECTORY : goal.returns-then-record_kind-ne-DIRECTORY
unfolding record_at
returns-then-record_kind-ne-DIRECTORY c =
    let record-id = c.record_id in
    let a = c.args in
    let x = record_at (laid a.layout) a.image.now a.at in let d : eqb x.id 1 ≡ true = eq-eqb _ _
    (sym record-id.ensures ∙ c.if-record_id-ne1.false) in
    let e : eqb x.kind 2 ≡ false = ne_eqb _ _ (λ q. c.if-record_kind-ne-DIRECTORY.true (c.record_kind.ensures ∙ q)) in
    rw (d, e)

pub returns-then-record_parent-ne0 : goal.returns-then-record_parent-ne0
unfolding record_at
returns-then-record_parent-ne0 c =
    let if1 = c.if-record_id-ne1 in
    let record-id = c.record_id in
    let a = c.args in
    let x = record_at (laid a.layout) a.image.now a.at in let d : eqb x.id 1 ≡ true = eq-eqb _ _
    (sym record-id.ensures ∙ if1.false) in
    let e : eqb x.kind 2 ≡ true = eq-eqb _ _ (sym c.record_kind.ensures
    ∙ c.if-record_kind-ne-DIRECTORY.false) in
    let f : eqb x.parent 0 ≡ false = ne_eqb _ _ (λ q. c.if-record_parent-ne0.true (c.record_parent.ensures ∙ q)) in
    rw (d, e, f)

pub returns : goal.returns
unfolding record_at
returns c =
    let if1 = c.if-record_id-ne1 in
    let record-id = c.record_id in
    let a = c.args in
    let x = record_at (laid a.layout) a.image.now a.at in let d : eqb x.id 1 ≡ true = eq-eqb _ _
    (sym record-id.ensures ∙ if1.false) in
    let e : eqb x.kind 2 ≡ true = eq-eqb _ _ (sym c.record_kind.ensures
    ∙ c.if-record_kind-ne-DIRECTORY.false) in
    let f : eqb x.parent 0 ≡ true = eq-eqb _ _ (sym c.record_parent.ensures
    ∙ c.if-record_parent-ne0.false) in
    rw (d, e, f) (c.is_empty.ensures ∙ ap (λ (l : List ℕ). eqb (length l) 0) c.record_name.ensures ∙ no_bytes x.name)
