-- The short forms of Ch and Maj, and that ⊕ is associative, bit by bit: a number is twice its half and its lowest bit,
-- and each
-- operation works on the two parts. Assumes nothing.
use Rattle.std.proofs.Common.{◌≡◌, ℕ, zero, suc, ◌+◌, ◌-◌, ◌*◌, ◌/◌, ◌%◌, ◌^◌, ◌<◌, min, refl, ◌∙◌, pow-suc, arith}
use native.Mathlib.Nat.{pow-zero}
use lib.Bits.{bit_and, bit_xor, differ, and_step, xor_step}

-- n is twice h, and the bit l
record Parts (n h l : ℕ) : Type 0 where
  whole : n ≡ h * 2 + l
  bit : l < 2

parts : (n : ℕ) → Parts n (n / 2) (n % 2)
parts n = record { whole = omega arith; bit = omega arith }

differ_bit : (x y : ℕ) → x < 2 → y < 2 → differ x y < 2
differ_bit zero y p q = q
differ_bit (suc x) zero p q = p
differ_bit (suc zero) (suc zero) p q = omega arith
differ_bit (suc (suc x)) (suc y) p q = absurd (omega arith)
differ_bit (suc zero) (suc (suc y)) p q = absurd (omega arith)

module _ {a b x y c d : ℕ} (p : Parts a x c) (q : Parts b y d) where
  and_parts : Parts (bit_and a b) (bit_and x y) (min c d)
  and_parts =
      let e₁ : a / 2 ≡ x = omega (arith, p.whole, p.bit) in
      let e₂ : a % 2 ≡ c = omega (arith, p.whole, p.bit) in
      let e₃ : b / 2 ≡ y = omega (arith, q.whole, q.bit) in
      let e₄ : b % 2 ≡ d = omega (arith, q.whole, q.bit) in
      record { whole = and_step a b ∙ rw (e₁, e₂, e₃, e₄); bit = omega (arith, p.bit, q.bit) }

  xor_parts : Parts (bit_xor a b) (bit_xor x y) (differ c d)
  xor_parts =
      let e₁ : a / 2 ≡ x = omega (arith, p.whole, p.bit) in
      let e₂ : a % 2 ≡ c = omega (arith, p.whole, p.bit) in
      let e₃ : b / 2 ≡ y = omega (arith, q.whole, q.bit) in
      let e₄ : b % 2 ≡ d = omega (arith, q.whole, q.bit) in
      record { whole = xor_step a b ∙ rw (e₁, e₂, e₃, e₄); bit = differ_bit c d p.bit q.bit }

same : {a b x y c d : ℕ} → Parts a x c → Parts b y d → x ≡ y → c ≡ d → a ≡ b
same p q e f = omega (arith, p.whole, q.whole, e, f)

complement_parts : (k x : ℕ) → x < 2 ^ suc k → Parts (2 ^ suc k - 1 - x) (2 ^ k - 1 - x / 2) (1 - x % 2)
complement_parts k x h =
    let g : x < 2 ^ k * 2 = rw pow-suc at h in
    record { whole = rw pow-suc (omega arith); bit = omega arith }

-- what holds of 0 and of 1 holds of a bit, and what holds of 0 of a number of no bits
bits : (F : ℕ → Type 0) → F 0 → F 1 → (x : ℕ) → x < 2 → F x
bits F f g zero h = f
bits F f g (suc zero) h = g
bits F f g (suc (suc x)) h = absurd (omega arith)

empty : (F : ℕ → Type 0) → F 0 → (x : ℕ) → x < 2 ^ 0 → F x
empty F f zero h = f
empty F f (suc x) h = let z : suc x < 1 = rw pow-zero at h in absurd (omega arith)

abbrev Majᵇ : ℕ → ℕ → ℕ → Type 0
Majᵇ x y z = differ (min (differ x y) (differ y z)) y ≡ differ (differ (min x y) (min x z)) (min y z)

maj_bit : (x y z : ℕ) → x < 2 → y < 2 → z < 2 → Majᵇ x y z
maj_bit x y z p q r =
    bits (λ x. Majᵇ x y z)
    (bits (λ y. Majᵇ 0 y z) (bits (λ z. Majᵇ 0 0 z) refl refl z r) (bits (λ z. Majᵇ 0 1 z) refl refl z r) y q)
    (bits (λ y. Majᵇ 1 y z) (bits (λ z. Majᵇ 1 0 z) refl refl z r) (bits (λ z. Majᵇ 1 1 z) refl refl z r) y q)
    x p

abbrev Chᵇ : ℕ → ℕ → ℕ → Type 0
Chᵇ x y z = differ (min (differ y z) x) z ≡ differ (min x y) (min (1 - x) z)

ch_bit : (x y z : ℕ) → x < 2 → y < 2 → z < 2 → Chᵇ x y z
ch_bit x y z p q r =
    bits (λ x. Chᵇ x y z)
    (bits (λ y. Chᵇ 0 y z) (bits (λ z. Chᵇ 0 0 z) refl refl z r) (bits (λ z. Chᵇ 0 1 z) refl refl z r) y q)
    (bits (λ y. Chᵇ 1 y z) (bits (λ z. Chᵇ 1 0 z) refl refl z r) (bits (λ z. Chᵇ 1 1 z) refl refl z r) y q)
    x p

half : (k x : ℕ) → x < 2 ^ suc k → x / 2 < 2 ^ k
half k x h = let g : x < 2 ^ k * 2 = rw pow-suc at h in omega arith

-- at every width
abbrev Majᵂ : ℕ → ℕ → ℕ → Type 0
Majᵂ x y z = bit_xor (bit_and (bit_xor x y) (bit_xor y z)) y ≡ bit_xor (bit_xor (bit_and x y) (bit_and x z)) (bit_and y z)

pub maj_short : (k x y z : ℕ) → x < 2 ^ k → y < 2 ^ k → z < 2 ^ k → Majᵂ x y z
maj_short zero x y z p q r = empty (λ x. Majᵂ x y z) (empty (λ y. Majᵂ 0 y z) (empty (λ z. Majᵂ 0 0 z) refl z r) y q) x
    p
maj_short (suc k) x y z p q r =
    let a = parts x in
    let b = parts y in
    let c = parts z in
    same
    (xor_parts (and_parts (xor_parts a b) (xor_parts b c)) b)
    (xor_parts (xor_parts (and_parts a b) (and_parts a c)) (and_parts b c))
    (maj_short k (x / 2) (y / 2) (z / 2) (half k x p) (half k y q) (half k z r))
    (maj_bit _ _ _ a.bit b.bit c.bit)

abbrev Chᵂ : ℕ → ℕ → ℕ → ℕ → Type 0
Chᵂ k x y z = bit_xor (bit_and (bit_xor y z) x) z ≡ bit_xor (bit_and x y) (bit_and (2 ^ k - 1 - x) z)

pub ch_short : (k x y z : ℕ) → x < 2 ^ k → y < 2 ^ k → z < 2 ^ k → Chᵂ k x y z
ch_short zero x y z p q r = empty (λ x. Chᵂ 0 x y z) (empty (λ y. Chᵂ 0 0 y z) (empty (λ z. Chᵂ 0 0 0 z) refl z r) y q)
    x p
ch_short (suc k) x y z p q r =
    let a = parts x in
    let b = parts y in
    let c = parts z in
    same
    (xor_parts (and_parts (xor_parts b c) a) c)
    (xor_parts (and_parts a b) (and_parts (complement_parts k x p) c))
    (ch_short k (x / 2) (y / 2) (z / 2) (half k x p) (half k y q) (half k z r))
    (ch_bit _ _ _ a.bit b.bit c.bit)

abbrev Assocᵇ : ℕ → ℕ → ℕ → Type 0
Assocᵇ x y z = differ x (differ y z) ≡ differ (differ x y) z

assoc_bit : (x y z : ℕ) → x < 2 → y < 2 → z < 2 → Assocᵇ x y z
assoc_bit x y z p q r =
    bits (λ x. Assocᵇ x y z)
    (bits (λ y. Assocᵇ 0 y z) (bits (λ z. Assocᵇ 0 0 z) refl refl z r) (bits (λ z. Assocᵇ 0 1 z) refl refl z r) y q)
    (bits (λ y. Assocᵇ 1 y z) (bits (λ z. Assocᵇ 1 0 z) refl refl z r) (bits (λ z. Assocᵇ 1 1 z) refl refl z r) y q)
    x p

abbrev Assocᵂ : ℕ → ℕ → ℕ → Type 0
Assocᵂ x y z = bit_xor x (bit_xor y z) ≡ bit_xor (bit_xor x y) z

pub xor_assoc : (k x y z : ℕ) → x < 2 ^ k → y < 2 ^ k → z < 2 ^ k → Assocᵂ x y z
xor_assoc zero x y z p q r = empty (λ x. Assocᵂ x y z) (empty (λ y. Assocᵂ 0 y z) (empty (λ z. Assocᵂ 0 0 z) refl z r) y
    q) x p
xor_assoc (suc k) x y z p q r =
    let a = parts x in
    let b = parts y in
    let c = parts z in
    same
    (xor_parts a (xor_parts b c))
    (xor_parts (xor_parts a b) c)
    (xor_assoc k (x / 2) (y / 2) (z / 2) (half k x p) (half k y q) (half k z r))
    (assoc_bit _ _ _ a.bit b.bit c.bit)
