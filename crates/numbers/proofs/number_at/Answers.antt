-- `numbers::number_at` meets its contract. The invariant: x is the number in the bytes from i on. Assumes nothing.
use native.Mathlib.Omega.{arith}
use Prim.Native.Nat.{suc, ◌+◌, ◌-◌, ◌^◌, ◌≤◌}
use mathlib.Core.Path.{◌≡◌, sym}
use native.Mathlib.Nat.{pow-zero, pow-suc, pow-le-pow_right}
use Rattle.lists.specs.NumberParts.{decode-first, decode_none}
use Rattle.numbers.proofs.number_at.Goals as goal

pub loop-i-init : goal.loop-i-init
loop-i-init c = let a = c.args in
    let e : a.w - a.w ≡ 0 = omega arith in
    (rw e (sym (decode_none (a.at + a.w) a.b.now)), rw (e, pow-zero) (omega arith))

pub overflow_mul-x : goal.overflow_mul-x
overflow_mul-x c = let a = c.args in
    let l = c.loop-i in
    let r : 256 ^ (a.w - l.i) ≤ 72057594037927936 = pow-le-pow_right {n = 256} (omega arith) {i = a.w - l.i} {j = 7}
    (omega arith) in
    omega (arith, l.invariant.1)

pub overflow_add-x : goal.overflow_add-x
overflow_add-x c = let a = c.args in
    let l = c.loop-i in
    let r : 256 ^ (a.w - l.i) ≤ 72057594037927936 = pow-le-pow_right {n = 256} (omega arith) {i = a.w - l.i} {j = 7}
    (omega arith) in
    omega (arith, l.invariant.1)

pub loop-i-preserved : goal.loop-i-preserved
loop-i-preserved c = let a = c.args in
    let l = c.loop-i in
    let k : a.w - (l.i - 1) ≡ suc (a.w - l.i) = omega arith in
    let e : a.at + (l.i - 1) + 1 ≡ a.at + l.i = omega arith in
    let d = rw e at (decode-first (a.w - l.i) (a.at + (l.i - 1)) a.b.now) in
    let h = l.invariant.1 in
    (rw k (omega (arith, d, l.invariant.0)), rw (k, pow-suc) (omega (arith, h)))
