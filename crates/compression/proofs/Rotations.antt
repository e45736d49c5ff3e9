-- Rotations at any width: they add up, and spread over ⊕; so the nested forms of Σ0 and Σ1 are the standard's.
-- Assumes nothing.
use Rattle.std.proofs.Common.{◌≡◌, ℕ, zero, ◌+◌, ◌-◌, ◌*◌, ◌/◌, ◌%◌, ◌^◌, ◌<◌, ◌≤◌, sym, ap, ◌∙◌, ap₂, lt_of_le_of_lt, add-zero, mod-lt, mul_assoc, mul_comm, div-lt_iff_lt-mul, mul-div_cancel, arith, pow_pos, pow-add}
use native.Mathlib.Nat.{mul-mod_left, mul-add-div_right}
use native.Mathlib.Nat.{mul-add-mod_self_right, div-div-eq-div-mul}
use lib.Arith.{mod-mul}
use lib.Bits.{bit_or, bit_xor, or_shifted_r, or_lt, xor_shr, xor_mod, xor_block, xor_lt}
use lib.Pow.{shr_le}
use Rattle.compression.proofs.Bits.{xor_assoc}

-- x of w bits, rotated to the right by n: the standard's ROTR at w = 32
abbrev pub rotr : ℕ → ℕ → ℕ → ℕ
rotr w n x = bit_or (x / 2 ^ n) (x * 2 ^ (w - n) % 2 ^ w)

-- the n low bits put above the others
abbrev turned : ℕ → ℕ → ℕ → ℕ
turned w n x = x % 2 ^ n * 2 ^ (w - n) + x / 2 ^ n

power : (a b : ℕ) {c : ℕ} → a + b ≡ c → 2 ^ c ≡ 2 ^ a * 2 ^ b
power a b e = ap (λ (x : ℕ). 2 ^ x) (sym e) ∙ pow-add 2 a b

shifted_mod : (x a b : ℕ) → x * 2 ^ b % (2 ^ a * 2 ^ b) ≡ x % 2 ^ a * 2 ^ b
shifted_mod x a b =
    mod-mul (x * 2 ^ b) (pow_pos a) (pow_pos b)
    ∙ ap₂ (λ (y z : ℕ). y % 2 ^ a * 2 ^ b + z) (mul-div_cancel x (pow_pos b)) (mul-mod_left x (2 ^ b))
    ∙ add-zero _

module _ {w n : ℕ} (l : n ≤ w) where
  whole : 2 ^ w ≡ 2 ^ n * 2 ^ (w - n)
  whole = power n (w - n) (omega arith)

  high_lt : (x : ℕ) → x < 2 ^ w → x / 2 ^ n < 2 ^ (w - n)
  high_lt x h = (div-lt_iff_lt-mul (pow_pos n)).1 (omega (arith, h, whole))

  rotr_turned : (x : ℕ) → x < 2 ^ w → rotr w n x ≡ turned w n x
  rotr_turned x h =
      ap (λ (y : ℕ). bit_or (x / 2 ^ n) y) (ap (λ (y : ℕ). x * 2 ^ (w - n) % y) whole ∙ shifted_mod x n (w - n))
      ∙ or_shifted_r (x % 2 ^ n) (w - n) (x / 2 ^ n) (high_lt x h)

  rotr_lt : (x : ℕ) → x < 2 ^ w → rotr w n x < 2 ^ w
  rotr_lt x h = or_lt w _ _ (lt_of_le_of_lt (shr_le x n) h) (mod-lt _ (pow_pos w))

  rotr_xor : (x y : ℕ) → x < 2 ^ w → y < 2 ^ w → rotr w n (bit_xor x y) ≡ bit_xor (rotr w n x) (rotr w n y)
  rotr_xor x y h g =
      rotr_turned (bit_xor x y) (xor_lt w x y h g)
      ∙ ap₂ (λ (a b : ℕ). a * 2 ^ (w - n) + b) (xor_mod x y n) (xor_shr x y n)
      ∙ sym (xor_block (w - n) (x % 2 ^ n) (y % 2 ^ n) (x / 2 ^ n) (y / 2 ^ n) (high_lt x h) (high_lt y g))
      ∙ ap₂ bit_xor (sym (rotr_turned x h)) (sym (rotr_turned y g))

-- with the powers as variables
turns : (x c : ℕ) {a b : ℕ} → zero < a → zero < b
    → (x % a * (c * b) + x / a) % b * (a * c) + (x % a * (c * b) + x / a) / b ≡ x % (b * a) * c + x / (b * a)
turns x c {a} {b} p q =
    let e₁ : x % a * (c * b) ≡ x % a * c * b = sym (mul_assoc (x % a) c b) in
    let e₂ : (x % a * c * b + x / a) % b ≡ x / a % b = mul-add-mod_self_right (x % a * c) b (x / a) in
    let e₃ : (x % a * c * b + x / a) / b ≡ x % a * c + x / a / b = mul-add-div_right q (x % a * c) (x / a) in
    let e₄ : x % (b * a) ≡ x / a % b * a + x % a = mod-mul x q p in
    let e₅ : x / (b * a) ≡ x / a / b = ap (λ (y : ℕ). x / y) (mul_comm b a) ∙ sym (div-div-eq-div-mul x a b) in
    rw (e₁, e₂, e₃, e₄, e₅) (omega arith)

rotr_rotr : {w : ℕ} (n i x : ℕ) → n + i ≤ w → x < 2 ^ w → rotr w n (rotr w i x) ≡ rotr w (n + i) x
rotr_rotr {w} n i x l h =
    let k : ℕ = w - (n + i) in
    let m : i ≤ w = omega arith in
    let e₁ : 2 ^ (w - i) ≡ 2 ^ k * 2 ^ n = power k n (omega arith) in
    let e₂ : 2 ^ (w - n) ≡ 2 ^ i * 2 ^ k = power i k (omega arith) in
    let t : turned w n (turned w i x) ≡ turned w (n + i) x = rw (e₁, e₂, pow-add 2 n i)
    (turns x (2 ^ k) (pow_pos i) (pow_pos n)) in
    rotr_turned (omega arith) (rotr w i x) (rotr_lt m x h) ∙ ap (turned w n) (rotr_turned m x h) ∙ t
    ∙ sym (rotr_turned l x h)

-- three rotations, each of the word so far
pub nested : (w n i j x : ℕ) → n + (i + j) ≤ w → x < 2 ^ w
    → rotr w n (bit_xor x (rotr w i (bit_xor x (rotr w j x)))) ≡ bit_xor (bit_xor (rotr w n x) (rotr w (n + i) x))
    (rotr w (n + (i + j)) x)
nested w n i j x l h =
    let lt : (k : ℕ) → k ≤ w → rotr w k x < 2 ^ w = λ k m. rotr_lt m x h in
    let inner : rotr w i (bit_xor x (rotr w j x)) ≡ bit_xor (rotr w i x) (rotr w (i + j) x) =
    rotr_xor (omega arith) x (rotr w j x) h (lt j (omega arith))
    ∙ ap (bit_xor (rotr w i x)) (rotr_rotr i j x (omega arith) h) in
    ap (λ (y : ℕ). rotr w n (bit_xor x y)) inner
    ∙ rotr_xor (omega arith) x _ h (xor_lt w _ _ (lt i (omega arith)) (lt (i + j) (omega arith)))
    ∙ ap (bit_xor (rotr w n x))
    (rotr_xor (omega arith) _ _ (lt i (omega arith)) (lt (i + j) (omega arith))
    ∙ ap₂ bit_xor (rotr_rotr n i x (omega arith) h) (rotr_rotr n (i + j) x l h))
    ∙ xor_assoc w _ _ _ (lt n (omega arith)) (lt (n + i) (omega arith)) (lt (n + (i + j)) l)
