-- `numbers::put_number` meets its contract. The invariant: i bytes are written, and y is what is left of the number.
-- Assumes nothing.
use native.Mathlib.Omega.{arith}
use Prim.Native.Nat.{◌/◌, ◌%◌, ◌^◌}
use mathlib.Core.Path.{◌≡◌, refl, sym}
use native.Mathlib.Nat.{pow-zero, pow-suc, div-div-eq-div-mul}
use native.Mathlib.Numerals.{add-one}
use lib.ListN.{length, length-set}
use Rattle.lists.specs.LittleEndian.{encode, length-encode}
use Rattle.lists.specs.PartLaws.{overwrite_none, overwrite_snoc}
use Rattle.lists.specs.NumberParts.{encode_snoc}
use Rattle.numbers.proofs.put_number.Goals as goal

pub loop-i-init : goal.loop-i-init
unfolding encode
loop-i-init c = let a = c.args in
    (refl, sym (overwrite_none 0 a.m.now a.at), rw pow-zero (omega arith))

pub loop-i-preserved : goal.loop-i-preserved
loop-i-preserved c = let a = c.args in
    let l = c.loop-i in
    let n : length (encode l.i a.x) ≡ l.i = length-encode l.i a.x in
    let o = overwrite_snoc 0 a.m.now a.at (encode l.i a.x) (a.x / 256 ^ l.i % 256) (omega arith) in (
      simp length-set l.invariant.0,
      rw (l.invariant.1, l.invariant.2, add-one l.i, encode_snoc l.i a.x) (rw n at o),
      rw (l.invariant.2, add-one l.i, pow-suc) (div-div-eq-div-mul a.x (256 ^ l.i) 256),
    )
