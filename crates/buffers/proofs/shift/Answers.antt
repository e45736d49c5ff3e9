-- `buffers::shift` meets its contract. Assumes nothing.
use Rattle.std.proofs.Common.{arith, sym, ◌∙◌, ◌≡◌, ◌+◌, ◌-◌, ◌*◌, ◌/◌, ◌%◌}
use Rattle.lists.specs.PartLaws.{move_same}
use Rattle.buffers.proofs.Blocks.{block_down, block_up}
use Rattle.buffers.proofs.shift.Goals as goal

pub returns-then-from-to : goal.returns-then-from-to
returns-then-from-to c =
    let a = c.args in
    let e : a.from ≡ a.to = c.if-from-to.true in
    rw e (sym (move_same 0 a.m.now a.to a.n (omega arith)))

pub returns-then-to-from : goal.returns-then-to-from
returns-then-to-from c =
    let a = c.args in
    let e : 128 * (a.n / 128) + 1 * (a.n % 128) ≡ a.n = omega arith in
    c.move_down-then-to-from.ensures
    ∙ rw c.move_down.ensures (rw e at (block_down a.m.now a.to a.from (128 * (a.n / 128)) (1 * (a.n % 128))
    (omega arith) (omega arith)))

pub returns-else-to-from : goal.returns-else-to-from
returns-else-to-from c =
    let a = c.args in
    let r = a.n % 128 in
    let n = 128 * (a.n / 128) in
    let d : 1 * r ≡ r = omega arith in
    let e : a.to + (r - r) ≡ a.to = omega arith in
    let f : a.from + (r - r) ≡ a.from = omega arith in
    let h : a.n - r ≡ n = omega arith in
    let k : a.n - (r - r) ≡ a.n = omega arith in
    c.move_up-else-to-from.ensures
    ∙ rw (d, c.move_up.ensures) (rw (e, f, h, k) at (block_up a.m.now a.to a.from a.n r r (omega arith) (omega arith)
    (omega arith) (omega arith)))
