-- `buffers::same_to_8` meets its contract. Assumes nothing.
use native.Mathlib.Omega.{arith}
use Prim.Native.Nat.{◌-◌}
use mathlib.Core.Path.{sym, ◌∙◌}
use lib.ListN.{length}
use Rattle.lists.specs.All.{Bytes}
use Rattle.lists.specs.EqualLaws.{bytes_of, word_differs, first_decides}
use Rattle.buffers.proofs.same_to_8.Goals as goal

pub returns-then-u32_at : goal.returns-then-u32_at
returns-then-u32_at c =
    let a = c.args in
    word_differs a.a.now a.b.now (length a.a.now - 4) 4 _ _ c.u32_at.ensures
    c.u32_at-2.ensures c.if-u32_at.true

pub returns : goal.returns
returns c =
    let a = c.args in
    let p : Bytes a.a.now = bytes_of a.a.now
    (λ k. omega (arith, c.type_inv.a k)) in
    let q : Bytes a.b.now = bytes_of a.b.now
    (λ k. omega (arith, c.type_inv.b k)) in
    first_decides a.a.now a.b.now p q 4 (length a.a.now - 4) _ _ (omega arith) (omega arith) (omega arith)
    (sym c.u32_at.ensures ∙ c.if-u32_at.false ∙ c.u32_at-2.ensures)
    c.u32_at-3.ensures c.u32_at-4.ensures
