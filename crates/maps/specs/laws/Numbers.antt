-- Sums that no number of 64 bits holds, and bytes that are zero, eight at a time.
-- Assumes nothing.
use Rattle.std.specs.Prelude.{◌≡◌, refl, Bool, true, false, ◌&&◌, List, [], ◌∷◌, ◌++◌, ℕ, ◌+◌, ◌-◌, ◌*◌, ◌≤◌, ◌<◌, ltb, length, get_or, take, drop}
use Rattle.std.proofs.Common.{sym, ◌∙◌, add-one, arith, drop_of_length-le, take-append-drop, drop-cons, drop-drop, ltb-true, ltb-false, lt-ltb, le-ltb, eqb-true, eq-eqb, ne_eqb}
use Rattle.std.proofs.Math.Path.{ap}
use Rattle.std.proofs.Math.Bool.{and_assoc}
use Rattle.std.proofs.Math.Dec.{eqb}
use Rattle.std.proofs.lemmas.Bool.{eqb-false}
use Rattle.lists.specs.Equal.{Is, is, is_t, is_f}
use Rattle.lists.specs.LittleEndian.{decode}
use Rattle.lists.specs.Parts.{part}
use Rattle.lists.specs.Search.{every}
use Rattle.rules.specs.MapRules.{ADDRESSES}

-- x before the end of n bytes from a on
pub before-end : (x a n : ℕ) → a ≤ x → ltb (x - a) n ≡ ltb x (a + n)
before-end x a n h = go (is (ltb (x - a) n))
  where
    go : Is (ltb (x - a) n) → ltb (x - a) n ≡ ltb x (a + n)
    go (is_t e) = let z : x - a < n = ltb-true _ _ e in e ∙ sym (lt-ltb x (a + n) (omega arith))
    go (is_f e) = let z : n ≤ x - a = ltb-false _ _ e in e ∙ sym (le-ltb x (a + n) (omega arith))

-- the last of n bytes from a on beyond 2^64 - 1
pub last_beyond : (a n : ℕ) → 1 ≤ a → n ≤ 65536 → ltb (18446744073709551615 - n) (a - 1) ≡ ltb ADDRESSES (a + n)
last_beyond a n h f = go (is (ltb ADDRESSES (a + n)))
  where
    go : Is (ltb ADDRESSES (a + n)) → ltb (18446744073709551615 - n) (a - 1) ≡ ltb ADDRESSES (a + n)
    go (is_t e) =
        let z : ADDRESSES < a + n = ltb-true _ _ e in
        lt-ltb (18446744073709551615 - n) (a - 1) (omega arith) ∙ sym e
    go (is_f e) =
        let z : a + n ≤ ADDRESSES = ltb-false _ _ e in
        le-ltb (18446744073709551615 - n) (a - 1) (omega arith) ∙ sym e

-- a number is 0 where each of its bytes is
byte_zero : (b d : ℕ) → eqb (b + 256 * d) 0 ≡ (eqb 0 b && eqb d 0)
byte_zero b d = go (is (eqb 0 b)) (is (eqb d 0))
  where
    go : Is (eqb 0 b) → Is (eqb d 0) → eqb (b + 256 * d) 0 ≡ (eqb 0 b && eqb d 0)
    go (is_t e) (is_t f) =
        let y : 0 ≡ b = eqb-true _ _ e in
        let z : d ≡ 0 = eqb-true _ _ f in
        rw (e, f, eq-eqb (b + 256 * d) 0 (omega arith))
    go (is_t e) (is_f f) =
        let z : d ≡ 0 → ⊥ = eqb-false _ _ f in
        rw (e, f, ne_eqb (b + 256 * d) 0 (λ w. z (omega arith)))
    go (is_f e) f =
        let z : 0 ≡ b → ⊥ = eqb-false _ _ e in
        rw (e, ne_eqb (b + 256 * d) 0 (λ w. z (omega arith)))

number-zero : (l : List ℕ) → every (eqb 0) l ≡ eqb (decode l) 0
unfolding every decode
number-zero [] = refl
number-zero (b ∷ l) = ap (λ (x : Bool). eqb 0 b && x) (number-zero l) ∙ sym (byte_zero b (decode l))

every_append : (a b : List ℕ) → every (eqb 0) (a ++ b) ≡ (every (eqb 0) a && every (eqb 0) b)
unfolding every
every_append [] b = refl
every_append (x ∷ a) b = ap (λ (y : Bool). eqb 0 x && y) (every_append a b) ∙ sym (and_assoc (eqb 0 x) _ _)

-- eight bytes from i on, as one number n
module _ (l : List ℕ) (i n : ℕ) (e : n ≡ decode (part i 8 l)) where
  pub word_split : every (eqb 0) (drop i l) ≡ (eqb n 0 && every (eqb 0) (drop (i + 8) l))
  unfolding part
  word_split =
      ap (every (eqb 0)) (sym (take-append-drop 8 (drop i l)) ∙ rw (drop-drop 8 i l))
      ∙ every_append (take 8 (drop i l)) (drop (i + 8) l)
      ∙ ap (λ (x : Bool). x && every (eqb 0) (drop (i + 8) l)) (number-zero (take 8 (drop i l))
      ∙ ap (λ (k : ℕ). eqb k 0) (sym e))

  pub word_not : (n ≡ 0 → ⊥) → every (eqb 0) (drop i l) ≡ false
  word_not h = word_split ∙ ap (λ (x : Bool). x && every (eqb 0) (drop (i + 8) l)) (ne_eqb n 0 h)

  pub word-is : n ≡ 0 → every (eqb 0) (drop i l) ≡ every (eqb 0) (drop (i + 8) l)
  word-is h = word_split ∙ ap (λ (x : Bool). x && every (eqb 0) (drop (i + 8) l)) (eq-eqb n 0 h)

-- four numbers of a block that begins at i
abbrev from_on : List ℕ → ℕ → Bool
from_on l i = every (eqb 0) (drop i l)

pub further : (l : List ℕ) (i j k : ℕ) → i + j ≡ k → from_on l (i + j) ≡ from_on l k
further l i j k e = ap (from_on l) e

-- one byte after the other
module _ (l : List ℕ) (i : ℕ) where
  byte_split : i < length l → every (eqb 0) (drop i l) ≡ (eqb 0 (get_or l i 0) && every (eqb 0) (drop (i + 1) l))
  unfolding every
  byte_split h = rw (add-one i) (ap (every (eqb 0)) (drop-cons l i 0 h))

  pub byte_not : i < length l → (get_or l i 0 ≡ 0 → ⊥) → every (eqb 0) (drop i l) ≡ false
  byte_not h f = byte_split h
      ∙ ap (λ (x : Bool). x && every (eqb 0) (drop (i + 1) l)) (ne_eqb 0 (get_or l i 0) (λ z. f (sym z)))

  pub byte-is : i < length l → get_or l i 0 ≡ 0 → every (eqb 0) (drop (i + 1) l) ≡ every (eqb 0) (drop i l)
  byte-is h f = sym (byte_split h
      ∙ ap (λ (x : Bool). x && every (eqb 0) (drop (i + 1) l)) (eq-eqb 0 (get_or l i 0) (sym f)))

  pub byte_end : length l ≤ i → every (eqb 0) (drop i l) ≡ true
  unfolding every
  byte_end h = ap (every (eqb 0)) (drop_of_length-le l {i = i} h)
