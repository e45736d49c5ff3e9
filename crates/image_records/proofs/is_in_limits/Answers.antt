-- `image_records::is_in_limits` meets its contract. Assumes nothing.
use native.Mathlib.Omega.{arith}
use mathlib.Core.Path.{◌≡◌, ap₂, sym, ◌∙◌}
use Rattle.image_records.specs.Laid.{laid}
use Rattle.image_records.specs.Records.{record_at}
use mathlib.Core.Bool.{true, false}
use lib.Dec.{eqb, leb, ltb}
use borrow.Author.Tests.{eq-eqb, ne_eqb, le-leb, lt-leb, lt-ltb}
use Prim.Native.Nat.{ℕ, ◌^◌}
use mathlib.Core.Bool.{◌&&◌, ◌||◌}
use Rattle.lists.specs.All.{Bytes}
use Rattle.lists.specs.EqualLaws.{bytes_of}
use Rattle.filesystem.specs.Image.{in_limits}
use Rattle.lists.specs.Equal.{and-false}
use Rattle.image_records.specs.laws.TestLaws.{id_below}
use Rattle.image_records.proofs.is_in_limits.Goals as goal

pub returns-then-record_id-eq0 : goal.returns-then-record_id-eq0
unfolding in_limits record_at
returns-then-record_id-eq0 c =
    let a = c.args in
    let x = record_at (laid a.layout) a.image.now a.at in let e : eqb x.id 0 ≡ true = eq-eqb _ _
    (sym c.record_id.ensures ∙ c.if-record_id-eq0.true) in rw e

pub returns-then-record_mode-gt7 : goal.returns-then-record_mode-gt7
unfolding in_limits record_at
returns-then-record_mode-gt7 c =
    let record-id = c.record_id in
    let a = c.args in
    let x = record_at (laid a.layout) a.image.now a.at in let d : eqb x.id 0 ≡ false = ne_eqb _ _
    (λ q. c.if-record_id-eq0.false (record-id.ensures ∙ q)) in
    let e : leb x.mode 7 ≡ false = lt-leb x.mode 7 (omega (arith, c.record_mode.ensures)) in rw (d, e)
    (sym (and-false (ltb x.id (256 ^ a.layout.id_bytes))))

pub returns : goal.returns
unfolding in_limits record_at
returns c =
    let if1 = c.if-record_id-eq0 in
    let record-id = c.record_id in
    let a = c.args in
    let x = record_at (laid a.layout) a.image.now a.at in
    let s = a.image.now in
    let y = laid a.layout in
    let b : Bytes s = bytes_of s
    (λ k. omega (arith, c.type_inv.image k)) in
    let d : eqb x.id 0 ≡ false = ne_eqb _ _ (λ q. if1.false (record-id.ensures ∙ q)) in
    let g : ltb x.id (256 ^ a.layout.id_bytes) ≡ true = lt-ltb _ _
    (id_below (laid a.layout) s a.at b (omega arith)) in
    let e : leb x.mode 7 ≡ true = le-leb x.mode 7
    (omega (arith, c.record_mode.ensures)) in
    rw (d, g, e) (c.is_kind_and_size.ensures ∙ ap₂ (λ (k z : ℕ). eqb k 1 && leb z 65536 || eqb k 2 && eqb z 0)
    c.record_kind.ensures c.record_size.ensures)
