-- Decimal digits, one by one.
-- Assumes nothing.
use Rattle.std.specs.Prelude.{◌≡◌, refl, List, [], ◌∷◌, ◌++◌, ℕ, zero, suc, ◌+◌, ◌-◌, ◌/◌, ◌^◌, ◌≤◌, ◌<◌, ltb, length}
use Rattle.std.specs.Prelude.{take, drop, set}
use Rattle.std.proofs.Common.{sym, ap, ◌∙◌, append_assoc, append-nil, pow-suc, arith, length-append, length-drop}
use Rattle.std.proofs.Common.{lt-ltb, le-ltb, ltb-true, ltb-false}
use Rattle.std.proofs.Math.Seq.{drop-length}
use Rattle.std.proofs.lemmas.List.{set_split}
use Rattle.std.proofs.lemmas.Fmt.{decimal_by_steps}
use Rattle.std.specs.Fmt.{decimal}
use Rattle.lists.specs.Equal.{Is, is_t, is_f, is}
use Rattle.text.specs.Ascii.{ascii}
use Rattle.text.specs.Digits.{decimal_of, last_digit, last_digits}

last_one : (k n : ℕ) → n < 10 → last_digits k n ≡ last_digit n ∷ []
unfolding last_digits
last_one zero n h = refl
last_one (suc k) n h = rw (lt-ltb n 10 h, last_digits)

last_more : (k n : ℕ) → 10 ≤ n → last_digits (suc k) n ≡ last_digits k (n / 10) ++ (last_digit n ∷ [])
unfolding last_digits
last_more k n h = rw (le-ltb n 10 h, last_digits)

-- what is more than enough changes nothing
enough : (k j n : ℕ) → n ≤ k → n ≤ j → last_digits k n ≡ last_digits j n
enough zero j n h g = last_one zero n (omega arith) ∙ sym (last_one j n (omega arith))
enough (suc k) zero n h g = last_one (suc k) n (omega arith) ∙ sym (last_one zero n (omega arith))
enough (suc k) (suc j) n h g = go (is (ltb n 10)) (λ l. enough k j (n / 10) (omega arith) (omega arith))
  where
    go : Is (ltb n 10) → (10 ≤ n → last_digits k (n / 10) ≡ last_digits j (n / 10))
        → last_digits (suc k) n ≡ last_digits (suc j) n
    go (is_t e) f = let l = ltb-true n 10 e in last_one (suc k) n l ∙ sym (last_one (suc j) n l)
    go (is_f e) f =
        let l = ltb-false n 10 e in
        last_more k n l ∙ ap (λ (s : List ℕ). s ++ (last_digit n ∷ [])) (f l) ∙ sym (last_more j n l)

pub decimal_one : (n : ℕ) → n < 10 → decimal_of n ≡ last_digit n ∷ []
unfolding decimal_of
decimal_one n h = last_one n n h

pub decimal_more : (n : ℕ) → 10 ≤ n → decimal_of n ≡ decimal_of (n / 10) ++ (last_digit n ∷ [])
unfolding decimal_of
decimal_more zero h = absurd (omega arith)
decimal_more (suc k) h =
    last_more k (suc k) h ∙ ap (λ (s : List ℕ). s ++ (last_digit (suc k) ∷ [])) (enough k (suc k / 10) (suc k / 10)
    (omega arith) (omega arith))

pub length-one : (n : ℕ) → n < 10 → length (decimal_of n) ≡ 1
length-one n h = ap length (decimal_one n h)

pub length_more : (n : ℕ) → 10 ≤ n → length (decimal_of n) ≡ length (decimal_of (n / 10)) + 1
length_more n h = ap length (decimal_more n h) ∙ length-append (decimal_of (n / 10)) (last_digit n ∷ [])

pub decimal_some : (n : ℕ) → 0 < length (decimal_of n)
decimal_some n = go (is (ltb n 10))
  where
    go : Is (ltb n 10) → 0 < length (decimal_of n)
    go (is_t e) = let z = length-one n (ltb-true n 10 e) in omega arith
    go (is_f e) = let z = length_more n (ltb-false n 10 e) in omega arith

-- a number below 10 to the k has at most k digits
pub decimal_most : (k n : ℕ) → n < 10 ^ suc k → length (decimal_of n) ≤ suc k
decimal_most zero n h = let e = length-one n h in omega arith
decimal_most (suc k) n h = go (is (ltb n 10)) (decimal_most k (n / 10) (let e = pow-suc 10 (suc k) in omega arith))
  where
    go : Is (ltb n 10) → length (decimal_of (n / 10)) ≤ suc k → length (decimal_of n) ≤ suc (suc k)
    go (is_t e) f = let z = length-one n (ltb-true n 10 e) in omega arith
    go (is_f e) f = let z = length_more n (ltb-false n 10 e) in omega arith

-- no digit written yet; one more in front of those that are written
pub digit_none : (n : ℕ) (l : List ℕ) → 0 < length l → decimal_of n ≡ decimal_of n ++ drop (suc (length l - 1)) l
digit_none n l h = let e : suc (length l - 1) ≡ length l = omega arith in
    sym (rw (e, drop-length l) (append-nil (decimal_of n)))

front-set : (l : List ℕ) (i v : ℕ) → i < length l → drop i (set l i v) ≡ v ∷ drop (suc i) l
front-set [] i v h = absurd (omega arith)
front-set (x ∷ l) zero v h = refl
front-set (x ∷ l) (suc i) v h = front-set l i v (omega arith)

module _ (n m i : ℕ) (l : List ℕ) (inside : i < length l) (written : decimal_of n ≡ decimal_of m ++ drop (suc i) l) where
  pub digit_more : 10 ≤ m → (k : ℕ) → i ≡ suc k → decimal_of n ≡ decimal_of (m / 10)
      ++ drop (suc k) (set l i (last_digit m))
  digit_more h k e =
      written ∙ rw (
        ← e,
        decimal_more m h,
        append_assoc (decimal_of (m / 10)) (last_digit m ∷ []) (drop (suc i) l),
        front-set l i (last_digit m) inside,
      )

  module _ (one : m < 10) where
    pub digit_first : (l₀ : List ℕ) → take i l ≡ take i l₀ → set l i (last_digit m) ≡ take i l₀ ++ decimal_of n
    digit_first l₀ e = set_split l i (last_digit m) inside ∙ rw (e, written, decimal_one m one)

    pub digits_end : i + length (decimal_of n) ≡ length l
    digits_end = rw (written, decimal_one m one) (omega (arith, length-drop (suc i) l))

-- what std prints of a number
pub decimal_is : (n : ℕ) → n < 2 ^ 64 → decimal_of n ≡ decimal n
decimal_is =
    decimal_by_steps (λ n s. decimal_of n ≡ s)
    (λ n h. decimal_one n h ∙ ap (λ d. (48 + d) ∷ []) (omega arith))
    (λ n s h e. decimal_more n h ∙ ap (λ t. t ++ (last_digit n ∷ [])) e)

pub decimal_examples : (decimal_of 0 ≡ ascii "0") × (decimal_of 2 ≡ ascii "2") × (decimal_of 10 ≡ ascii "10") × (decimal_of 65535 ≡ ascii "65535")
    × (decimal_of 18446744073709551615 ≡ ascii "18446744073709551615")
unfolding decimal_of last_digits ascii
decimal_examples = (refl, refl, refl, refl, refl)
