-- `buffers::same_to_32` meets its contract. Assumes nothing.
use Prim.Native.Nat.{◌-◌}
use mathlib.Core.Path.{sym, ◌∙◌}
use native.Mathlib.Omega.{arith}
use lib.ListN.{length}
use Rattle.lists.specs.Parts.{part}
use Rattle.lists.specs.EqualLaws.{end_differs, front_decides}
use Rattle.buffers.proofs.same_to_32.Goals as goal

pub returns-then-not-same_to_16 : goal.returns-then-not-same_to_16
unfolding part
returns-then-not-same_to_16 c =
    let a = c.args in
    let n = length a.a.now in
    end_differs a.a.now a.b.now (n - 16) (n - (n - 16)) (sym c.same_to_16.ensures
    ∙ c.if-not-same_to_16.true)

pub returns : goal.returns
unfolding part
returns c =
    let a = c.args in
    let n = length a.a.now in
    c.same_to_16-2.ensures
    ∙ front_decides a.a.now a.b.now (n - 16) (n - (n - 16)) 16 (omega arith) (omega arith) (omega arith)
    (sym c.same_to_16.ensures ∙ c.if-not-same_to_16.false)
