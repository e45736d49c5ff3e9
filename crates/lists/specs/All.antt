-- Each element of a list has a property.
-- Assumes nothing.
use Rattle.std.specs.Prelude.{List, [], ◌∷◌, ◌++◌, ℕ, zero, suc, ◌<◌, length, get_or, take, drop, set}
use Rattle.std.proofs.Common.{arith}

pub data All {A : Type 0} (F : A → Type 0) : List A → Type 0 where
  none : All F []
  both : {x : A} {xs : List A} → F x → All F xs → All F (x ∷ xs)

-- numbers that are bytes
abbrev pub Bytes : List ℕ → Type 0
Bytes s = All (λ (b : ℕ). b < 256) s

module _ {A : Type 0} {F : A → Type 0} where
  pub all_head : {x : A} {xs : List A} → All F (x ∷ xs) → F x
  all_head (both f p) = f

  pub all_tail : {x : A} {xs : List A} → All F (x ∷ xs) → All F xs
  all_tail (both f p) = p

  pub all_append : {xs ys : List A} → All F xs → All F ys → All F (xs ++ ys)
  all_append none q = q
  all_append (both f p) q = both f (all_append p q)

  pub all_left : (xs ys : List A) → All F (xs ++ ys) → All F xs
  all_left [] ys p = none
  all_left (x ∷ xs) ys (both f p) = both f (all_left xs ys p)

  pub all_right : (xs ys : List A) → All F (xs ++ ys) → All F ys
  all_right [] ys p = p
  all_right (x ∷ xs) ys (both f p) = all_right xs ys p

  pub all_take : (n : ℕ) {xs : List A} → All F xs → All F (take n xs)
  all_take zero p = none
  all_take (suc n) none = none
  all_take (suc n) (both f p) = both f (all_take n p)

  pub all_drop : (n : ℕ) {xs : List A} → All F xs → All F (drop n xs)
  all_drop zero p = p
  all_drop (suc n) none = none
  all_drop (suc n) (both f p) = all_drop n p

  pub all_set : (k : ℕ) (x : A) {xs : List A} → F x → All F xs → All F (set xs k x)
  all_set k x f none = none
  all_set zero x f (both g p) = both f p
  all_set (suc k) x f (both g p) = both g (all_set k x f p)

  pub all-at : (k : ℕ) (z : A) {xs : List A} → F z → All F xs → F (get_or xs k z)
  all-at k z f none = f
  all-at zero z f (both g p) = g
  all-at (suc k) z f (both g p) = all-at k z f p

  pub all_get : (k : ℕ) (z : A) (xs : List A) → k < length xs → All F xs → F (get_or xs k z)
  all_get k z [] h none = absurd (omega arith)
  all_get zero z (x ∷ xs) h (both f p) = f
  all_get (suc k) z (x ∷ xs) h (both f p) = all_get k z xs (omega arith) p

-- a property that follows from another
pub all_map : {A : Type 0} {F G : A → Type 0} → ((x : A) → F x → G x) → {xs : List A} → All F xs → All G xs
all_map h none = none
all_map h (both {x = x} f p) = both (h x f) (all_map h p)
