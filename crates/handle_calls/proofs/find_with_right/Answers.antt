-- `handle_calls::find_with_right` meets its contract. Assumes nothing.
use native.Mathlib.Omega.{arith}
use Prim.Native.Nat.{◌/◌, ◌%◌}
use mathlib.Core.Path.{◌≡◌, sym, ap, ◌∙◌}
use mathlib.Core.Bool.{not}
use borrow.Author.Tests.{eq-eqb, ne_eqb}
use lib.Dec.{eqb}
use lib.ListN.{length, take}
use Rattle.std.specs.Prelude.{Ok}
use Rattle.memory.specs.Layout.{mem_of}
use Rattle.filesystem.specs.Tables.{OpenFile}
use Rattle.handle_calls.specs.Judged.{lacks_right}
use Rattle.handle_calls.specs.laws.HandledLaws.{lacks_there, found_absent, found_lacking, found_right}
use Rattle.tables.specs.laws.FoundLaws.{found_none, found_some}
use Rattle.tables.specs.laws.RowsInUse.{count-opens, open_front}
use Rattle.handle_calls.proofs.find_with_right.Goals as goal

pub returns-in_default : goal.returns-in_default
returns-in_default c =
    let a = c.args in
    let os = take a.o (mem_of a.m.now).opens in
    let e : length os ≡ a.o = count-opens a.m.now a.o (omega arith) in
    let h = found_none _ _ (sym c.in_default.is ∙ c.find_handle.ensures) in
    sym (found_absent os a.handle a.right (omega arith))

pub open_rights-requires : goal.open_rights-requires
open_rights-requires c =
    let h = found_some _ _ (sym c.in-Some.is ∙ c.find_handle.ensures) in
    (omega (arith, h.1), omega arith)

pub returns-then-open_rights-right-ne1 : goal.returns-then-open_rights-right-ne1
returns-then-open_rights-right-ne1 c =
    let a = c.args in
    let os = take a.o (mem_of a.m.now).opens in
    let e : length os ≡ a.o = count-opens a.m.now a.o (omega arith) in
    let (k, h) = found_some _ _ (sym c.in-Some.is ∙ c.find_handle.ensures) in
    let q = c.open_rights.ensures
    ∙ ap (λ (x : OpenFile). x.rights) (sym (open_front a.o (mem_of a.m.now).opens c.in-Some.k h)) in
    let l = ap (lacks_right os a.right) (sym k) ∙ lacks_there os a.right c.in-Some.k (omega arith)
    ∙ ap (λ x. not (eqb (x / a.right % 2) 1)) (sym q) in
    sym (found_lacking os a.handle a.right (l ∙ ap not (ne_eqb _ _ c.if-open_rights-right-ne1.true)))

pub returns : goal.returns
returns c =
    let a = c.args in
    let os = take a.o (mem_of a.m.now).opens in
    let e : length os ≡ a.o = count-opens a.m.now a.o (omega arith) in
    let (k, h) = found_some _ _ (sym c.in-Some.is ∙ c.find_handle.ensures) in
    let q = c.open_rights.ensures
    ∙ ap (λ (x : OpenFile). x.rights) (sym (open_front a.o (mem_of a.m.now).opens c.in-Some.k h)) in
    let l = ap (lacks_right os a.right) (sym k) ∙ lacks_there os a.right c.in-Some.k (omega arith)
    ∙ ap (λ x. not (eqb (x / a.right % 2) 1)) (sym q) in
    ap Ok k ∙ sym (found_right os a.handle a.right (l ∙ ap not (eq-eqb _ _ c.if-open_rights-right-ne1.false)))
