-- `buffers::move_up` meets its contract. Assumes nothing.
use Rattle.std.proofs.Common.{arith, refl, sym, ◌∙◌, ◌≡◌, ◌+◌, ◌-◌, ◌*◌}
use native.Mathlib.Nat.{sub_self}
use Rattle.std.proofs.lemmas.Nat.{column_fits}
use Rattle.lists.specs.PartLaws.{move_none}
use Rattle.buffers.proofs.Blocks.{block_up, one_less}
use Rattle.buffers.proofs.move_up.Goals as goal

pub loop-i-init : goal.loop-i-init
loop-i-init g c =
    let n = g.row.N * c.args.n in
    (refl, rw (sub_self n) (sym (move_none 0 c.args.m.now (c.args.to + n) (c.args.from + n))))

pub loop-i-preserved : goal.loop-i-preserved
loop-i-preserved g c =
    let l = c.loop-i in
    let a = c.args in
    let n = g.row.N in
    let e : n * (l.i - 1) + n ≡ n * l.i = one_less n l.i (omega arith) in
    let d : n * (l.i - 1) ≡ n * l.i - n = omega arith in
    let f = column_fits n (l.i - 1) n a.n (omega arith) (omega arith) in (
      omega arith,
      c.put_bytes.ensures ∙ rw (c.bytes_at-block.ensures, d, l.invariant.1)
          (block_up a.m.now a.to a.from (n * a.n) (n * l.i) n (omega arith) (omega arith) (omega arith) (omega arith)),
    )
