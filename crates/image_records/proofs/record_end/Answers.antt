-- `image_records::record_end` meets its contract. Assumes nothing.
use native.Mathlib.Omega.{arith}
use mathlib.Core.Path.{◌≡◌, ap}
use Prim.Native.Nat.{ℕ, ◌+◌, ◌-◌}
use lib.ListN.{get_or}
use Rattle.image_records.specs.Laid.{laid}
use Rattle.image_records.specs.Records.{size_at, record_end}
use Rattle.image_records.proofs.record_end.Goals as goal

pub returns : goal.returns
unfolding record_end
returns c =
    let a = c.args in
    let f = c.front_length.ensures.0 in
    let p = a.at + c.front_length.result - 1 in
    let e : p ≡ size_at (laid a.layout) a.at + 4 = omega (arith, f) in
    let g = ap (λ (i : ℕ). get_or a.image.now i 0) e in
    let h = c.type_inv.image p in
    (omega (arith, g, f), omega (arith, f), omega (arith, h, f))
