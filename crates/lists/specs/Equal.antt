-- Equality of lists of numbers as a test, and what a test says.
-- Assumes nothing.
use Rattle.std.specs.Prelude.{◌≡◌, refl, Bool, true, false, ◌&&◌, ◌||◌, List, [], ◌∷◌, ℕ, eqb}
use Rattle.std.proofs.Common.{ap, sym, ◌∙◌, true≢false, eqb-true, eq-eqb}

-- a test with what it says
pub data Is (b : Bool) : Type 0 where
  is_t : b ≡ true → Is b
  is_f : b ≡ false → Is b

pub is : (b : Bool) → Is b
is true = is_t refl
is false = is_f refl

pub and_fst : (a b : Bool) → (a && b) ≡ true → a ≡ true
and_fst true b e = refl
and_fst false b e = e

pub and_snd : (a b : Bool) → (a && b) ≡ true → b ≡ true
and_snd true b e = e
and_snd false b e = absurd (true≢false (sym e))

pub and_both : (a b : Bool) → a ≡ true → b ≡ true → (a && b) ≡ true
and_both a b p q = rw (p, q)

pub and-true : (b : Bool) → (b && true) ≡ b
and-true true = refl
and-true false = refl

pub and-false : (b : Bool) → (b && false) ≡ false
and-false true = refl
and-false false = refl

pub or_fst : (a b : Bool) → (a || b) ≡ false → a ≡ false
or_fst true b e = e
or_fst false b e = refl

pub or_snd : (a b : Bool) → (a || b) ≡ false → b ≡ false
or_snd true b e = absurd (true≢false e)
or_snd false b e = e

pub or_both : (a b : Bool) → a ≡ false → b ≡ false → (a || b) ≡ false
or_both a b p q = rw (p, q)

-- the same numbers in the same order
unfoldable pub equal : List ℕ → List ℕ → Bool
equal [] [] = true
equal [] (y ∷ ys) = false
equal (x ∷ xs) [] = false
equal (x ∷ xs) (y ∷ ys) = eqb x y && equal xs ys

pub equal_refl : (xs : List ℕ) → equal xs xs ≡ true
unfolding equal
equal_refl [] = refl
equal_refl (x ∷ xs) = rw (eq-eqb x x refl, equal_refl xs)

pub equal_true : (xs ys : List ℕ) → equal xs ys ≡ true → xs ≡ ys
unfolding equal
equal_true [] [] e = refl
equal_true [] (y ∷ ys) e = absurd (true≢false (sym e))
equal_true (x ∷ xs) [] e = absurd (true≢false (sym e))
equal_true (x ∷ xs) (y ∷ ys) e = λ k. eqb-true x y (and_fst _ _ e) k ∷ equal_true xs ys (and_snd (eqb x y) _ e) k

pub equal_false : (xs ys : List ℕ) → equal xs ys ≡ false → xs ≡ ys → ⊥
equal_false xs ys e q = true≢false (sym (equal_refl ys) ∙ (ap (λ l. equal l ys) (sym q) ∙ e))

-- equal lists pass the test
pub equal_yes : (xs ys : List ℕ) → xs ≡ ys → equal xs ys ≡ true
equal_yes xs ys e = rw e (equal_refl ys)

-- different ones do not
pub equal-no : (xs ys : List ℕ) → (xs ≡ ys → ⊥) → equal xs ys ≡ false
equal-no xs ys n = go (is (equal xs ys))
  where
    go : Is (equal xs ys) → equal xs ys ≡ false
    go (is_t e) = absurd (n (equal_true xs ys e))
    go (is_f e) = e
