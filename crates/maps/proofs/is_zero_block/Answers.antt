-- `maps::is_zero_block` meets its contract. Assumes nothing.
use native.Mathlib.Omega.{arith}
use mathlib.Core.Path.{ap, ◌∙◌}
use mathlib.Core.Bool.{Bool, ◌&&◌}
use Prim.Native.Nat.{◌+◌}
use lib.Dec.{eqb}
use Rattle.maps.specs.laws.Numbers.{word_split, word_not, word-is, further}
use Rattle.maps.proofs.is_zero_block.Goals as goal

pub returns-then-u64_at-ne0 : goal.returns-then-u64_at-ne0
returns-then-u64_at-ne0 c =
    let a = c.args in
    word_not a.x.now a.i _ c.u64_at.ensures c.if-u64_at-ne0.true

pub returns-then-u64_at-ne0-2 : goal.returns-then-u64_at-ne0-2
returns-then-u64_at-ne0-2 c =
    let a = c.args in
    word-is a.x.now a.i _ c.u64_at.ensures c.if-u64_at-ne0.false
    ∙ word_not a.x.now (a.i + 8) _ c.u64_at-2.ensures c.if-u64_at-ne0-2.true

pub returns-then-u64_at-ne0-3 : goal.returns-then-u64_at-ne0-3
returns-then-u64_at-ne0-3 c =
    let a = c.args in
    word-is a.x.now a.i _ c.u64_at.ensures c.if-u64_at-ne0.false
    ∙ word-is a.x.now (a.i + 8) _ c.u64_at-2.ensures c.if-u64_at-ne0-2.false
    ∙ further a.x.now (a.i + 8) 8 (a.i + 16) (omega arith)
    ∙ word_not a.x.now (a.i + 16) _ c.u64_at-3.ensures c.if-u64_at-ne0-3.true

pub returns : goal.returns
returns c =
    let a = c.args in
    word-is a.x.now a.i _ c.u64_at.ensures c.if-u64_at-ne0.false
    ∙ word-is a.x.now (a.i + 8) _ c.u64_at-2.ensures c.if-u64_at-ne0-2.false
    ∙ further a.x.now (a.i + 8) 8 (a.i + 16) (omega arith)
    ∙ word-is a.x.now (a.i + 16) _ c.u64_at-3.ensures c.if-u64_at-ne0-3.false
    ∙ further a.x.now (a.i + 16) 8 (a.i + 24) (omega arith)
    ∙ word_split a.x.now (a.i + 24) _ c.u64_at-4.ensures
    ∙ ap (λ (y : Bool). eqb c.u64_at-4.result 0 && y) (further a.x.now (a.i + 24) 8 (a.i + 32) (omega arith))
