-- `image_records::record_size` meets its contract. Assumes nothing.
use native.Mathlib.Omega.{arith}
use mathlib.Core.Path.{◌≡◌, ap, ◌∙◌}
use Prim.Native.Nat.{ℕ, ◌+◌, ◌-◌}
use Rattle.lists.specs.LittleEndian.{decode}
use Rattle.lists.specs.Parts.{part}
use Rattle.image_records.specs.Laid.{laid}
use Rattle.image_records.specs.Records.{size_at, record_at}
use Rattle.image_records.proofs.record_size.Goals as goal

pub returns : goal.returns
unfolding record_at
returns c =
    let a = c.args in
    let e : a.at + c.front_length.result - 5 ≡ size_at (laid a.layout) a.at = omega (arith, c.front_length.ensures.0) in
    c.u32_at.ensures ∙ ap (λ (p : ℕ). decode (part p 4 a.image.now)) e
