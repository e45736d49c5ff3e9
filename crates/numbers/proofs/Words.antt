-- A number's four or eight bytes, by std's definitions and by lists/LittleEndian. Assumes nothing.
use Prim.Native.Nat.{ℕ, ◌+◌, ◌*◌}
use mathlib.Core.Path.{◌≡◌, ap}
use mathlib.Core.List.{List}
use native.Mathlib.Nat.{add_assoc, div-div-eq-div-mul}
use native.Mathlib.Omega.{arith}
use lib.ListN.{length, get_or}
use lib.Seq.{take_all}
use Rattle.std.specs.Int.{w32, w64, to_le_bytes, from_le_bytes}
use Rattle.lists.specs.LittleEndian.{encode, decode}
use Rattle.lists.specs.NumberParts.{decode-first, decode-split, decode_none}
use Rattle.lists.specs.Parts.{part}

pub encode_4 : (x : ℕ) → to_le_bytes w32 x ≡ encode 4 x
unfolding encode
encode_4 x = simp div-div-eq-div-mul

pub encode_8 : (x : ℕ) → to_le_bytes w64 x ≡ encode 8 x
unfolding encode
encode_8 x = simp div-div-eq-div-mul

pub sum_of_four : (at : ℕ) (l : List ℕ)
    → decode (part at 4 l) ≡ get_or l at 0 + 256 * get_or l (at + 1) 0 + 65536 * get_or l (at + 2) 0
    + 16777216 * get_or l (at + 3) 0
sum_of_four at l =
    rw (
      decode-first 3 at l,
      decode-first 2 (at + 1) l,
      decode-first 1 (at + 1 + 1) l,
      decode-first 0 (at + 1 + 1 + 1)
          l,
      decode_none (at + 1 + 1 + 1 + 1) l,
      add_assoc at 1 1,
      add_assoc at (1 + 1) 1,
    ) (omega arith)

module _ (bs : List ℕ) where
  whole : (n : ℕ) → length bs ≡ n → part 0 n bs ≡ bs
  unfolding part
  whole n l = take_all n bs (omega arith)

  pub decode_8 : length bs ≡ 8 → from_le_bytes w64 bs ≡ decode bs
  decode_8 l = omega (arith, ap decode (whole 8 l), decode-split 4 4 0 bs, sum_of_four 0 bs, sum_of_four 4 bs)
