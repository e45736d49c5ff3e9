-- `desk::answer_lines` meets its contract: what is answered so far is lines of the text. Assumes nothing.
use native.Mathlib.Omega.{arith}
use mathlib.Core.Path.{refl}
use mathlib.Core.Logic.{inl}
use Rattle.lists.specs.Parts.{part}
use Rattle.desk.specs.laws.SessionLaws.{answers_at, through_none, through_more, unended}
use Rattle.desk.proofs.answer_lines.Goals as goal

pub loop-out-init : goal.loop-out-init
loop-out-init c = (through_none _ _ _, omega arith, omega arith, refl, refl)

pub returns-then-end-text : goal.returns-then-end-text
returns-then-end-text c =
    let l = c.loop-out in
    record { through = l.invariant.0; all = inl (unended _ _ _ c.end-end.ensures (omega arith)) }

pub loop-out-preserved : goal.loop-out-preserved
unfolding part
loop-out-preserved c =
    let l = c.loop-out in
    let h = c.end-end.ensures.inside in
    let x = answers_at l.memory _ l.filled _ _ _ l.out _ refl (omega arith) c.answer_line-filled.ensures in
    let t = through_more _ _ _ _ _ _ _ _ _ _ _ l.invariant.0 c.end-end.ensures (omega arith) x in
    let w = t.within in
    let f = t.fits in
    (t, omega arith, omega arith, omega arith, omega arith)
