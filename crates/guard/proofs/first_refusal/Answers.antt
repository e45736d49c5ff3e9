-- `guard::first_refusal` meets its contract. Assumes nothing.
use Rattle.guard.specs.laws.Tested.{tested_stopped, tested_busy, tested_quiet}
use Rattle.refusals.specs.Numbers.{number_or_0}
use Rattle.guard.proofs.first_refusal.Goals as goal

pub returns-then-g : goal.returns-then-g
returns-then-g c =
    let a = c.args in
    tested_stopped (number_or_0 a.busy) (number_or_0 a.quiet) a.m.now _ c.load-g.ensures c.if-g.true

pub returns-then-is_pending : goal.returns-then-is_pending
returns-then-is_pending c =
    let a = c.args in
    tested_busy (number_or_0 a.busy) (number_or_0 a.quiet) a.m.now _ c.load-g.ensures c.if-g.false _
    c.is_pending.ensures c.if-is_pending.true

pub returns : goal.returns
returns c =
    let a = c.args in
    tested_quiet (number_or_0 a.busy) (number_or_0 a.quiet) a.m.now _ c.load-g.ensures c.if-g.false _
    c.is_pending.ensures c.if-is_pending.false
