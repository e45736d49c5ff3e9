-- Numbers of any width, the least significant byte first.
-- Assumes nothing.
use Rattle.std.specs.Prelude.{◌≡◌, refl, List, [], ◌∷◌, ℕ, zero, suc, ◌+◌, ◌*◌, ◌/◌, ◌%◌, ◌^◌, ◌<◌, length}
use Rattle.std.proofs.Common.{ap, arith, pow-suc}
use Rattle.std.proofs.Math.Nat.{pow-zero, one-le-pow}
use Rattle.lists.specs.All.{both, none, Bytes}

-- n as w bytes; of a larger number the w low bytes
unfoldable pub encode : ℕ → ℕ → List ℕ
encode zero n = []
encode (suc w) n = n % 256 ∷ encode w (n / 256)

unfoldable pub decode : List ℕ → ℕ
decode [] = 0
decode (b ∷ bs) = b + 256 * decode bs

pub length-encode : (w n : ℕ) → length (encode w n) ≡ w
unfolding encode
length-encode zero n = refl
length-encode (suc w) n = ap suc (length-encode w (n / 256))

pub bytes-encode : (w n : ℕ) → Bytes (encode w n)
unfolding encode
bytes-encode zero n = none
bytes-encode (suc w) n = both {x = n % 256} (omega arith) (bytes-encode w (n / 256))

pub decode-encode : (w n : ℕ) → n < 256 ^ w → decode (encode w n) ≡ n
unfolding encode decode
decode-encode zero n h = let z : n < 1 = rw pow-zero at h in omega arith
decode-encode (suc w) n h =
    let z : n < 256 ^ w * 256 = rw pow-suc at h in
    let e = decode-encode w (n / 256) (omega arith) in
    rw e (omega arith)

pub encode-decode : (s : List ℕ) → Bytes s → encode (length s) (decode s) ≡ s
unfolding encode decode
encode-decode [] a = refl
encode-decode (b ∷ s) (both h a) =
    let e : (b + 256 * decode s) % 256 ≡ b = omega arith in
    let e₂ : (b + 256 * decode s) / 256 ≡ decode s = omega arith in
    rw (e, e₂, encode-decode s a)

pub decode_below : (s : List ℕ) → Bytes s → decode s < 256 ^ length s
unfolding decode
decode_below [] a = one-le-pow 0 256 (omega arith)
decode_below (b ∷ s) (both h a) = rw pow-suc (let z = decode_below s a in omega arith)
