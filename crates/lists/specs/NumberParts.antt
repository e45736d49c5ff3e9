-- The number that a part of a list of bytes stands for, byte by byte and in two pieces; a number's bytes with one more.
-- Assumes nothing.
use Rattle.std.specs.Prelude.{◌≡◌, refl, List, [], ◌∷◌, ◌++◌, ℕ, zero, suc, ◌+◌, ◌*◌, ◌/◌, ◌%◌, ◌^◌, ◌<◌, ◌≤◌, length, get_or, take, drop}
use Rattle.std.proofs.Common.{ap, subst, ◌∙◌, pow-suc, zero-add, suc-add, add-zero, mul_comm, arith, drop-drop, get_or-drop}
use Rattle.std.proofs.Math.Nat.{pow-zero, div-div-eq-div-mul}
use Rattle.std.proofs.Math.Seq.{take-nil}
use Rattle.lists.specs.All.{Bytes, all_take, all_drop}
use Rattle.lists.specs.LittleEndian.{encode, decode, decode_below}
use Rattle.lists.specs.Parts.{part}
use Rattle.lists.specs.PartLaws.{length_part}

-- the first byte, and the rest
first : (n : ℕ) (l : List ℕ) → decode (take (suc n) l) ≡ get_or l 0 0 + 256 * decode (take n (drop 1 l))
unfolding decode
first n [] = rw (take-nil n)
first n (b ∷ l) = refl

pub decode-first : (n at : ℕ) (l : List ℕ) → decode (part at (suc n) l) ≡ get_or l at 0 + 256 * decode (part (at + 1) n l)
unfolding part
decode-first n at l = first n (drop at l) ∙ rw (get_or-drop at l 0 0, drop-drop 1 at l, add-zero at)

pub decode_none : (at : ℕ) (l : List ℕ) → decode (part at 0 l) ≡ 0
unfolding part decode
decode_none at l = refl

-- the low n bytes, and the rest
pub decode-split : (n k at : ℕ) (l : List ℕ) → decode (part at (n + k) l) ≡ decode (part at n l) + 256 ^ n * decode (part (at + n) k l)
decode-split zero k at l = rw (zero-add k, add-zero at, decode_none at l, pow-zero) (omega arith)
decode-split (suc n) k at l =
    let e : at + 1 + n ≡ at + suc n = omega arith in
    rw (suc-add n k, decode-first (n + k) at l, decode-first n at l, decode-split n k (at + 1) l, e, pow-suc) (omega arith)

-- a number in n bytes is below 256 ^ n
pub part_below : (at n : ℕ) (l : List ℕ) → Bytes l → at + n ≤ length l → decode (part at n l) < 256 ^ n
unfolding part
part_below at n l p h = subst (λ (k : ℕ). decode (part at n l) < 256 ^ k) (length_part at n l h) (decode_below (part at n l) (all_take n (all_drop at p)))

-- one byte more
pub encode_snoc : (n x : ℕ) → encode (suc n) x ≡ encode n x ++ (x / 256 ^ n % 256 ∷ [])
unfolding encode
encode_snoc zero x = let e : x / 1 % 256 ≡ x % 256 = omega arith in rw (pow-zero, e)
encode_snoc (suc n) x =
    ap (λ (r : List ℕ). x % 256 ∷ r) (encode_snoc n (x / 256) ∙ rw (div-div-eq-div-mul x 256 (256 ^ n), pow-suc, mul_comm 256 (256 ^ n)))
