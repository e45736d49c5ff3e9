-- `buffers::same_bytes` meets its contract. The invariant: the strings are alike as far as was read. Assumes nothing.
use native.Mathlib.Omega.{arith}
use Prim.Native.Nat.{ℕ}
use mathlib.Core.Path.{sym, ap}
use mathlib.Core.List.{List}
use lib.ListN.{get_or}
use Rattle.lists.specs.Equal.{equal_yes, equal-no}
use Rattle.lists.specs.EqualLaws.{alike_all}
use Rattle.buffers.proofs.same_bytes.Goals as goal

pub returns-then-a-i : goal.returns-then-a-i
returns-then-a-i c =
    let a = c.args in
    let i = c.loop-i.i in
    sym (equal-no a.a.now a.b.now (λ e. c.if-a-i.true (ap (λ (l : List ℕ). get_or l i 0) e)))

pub returns : goal.returns
returns c =
    let a = c.args in
    let l = c.loop-i in
    sym (equal_yes a.a.now a.b.now (alike_all a.a.now a.b.now l.i (omega arith) (omega arith)
    l.invariant))
