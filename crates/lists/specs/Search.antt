-- Tests over lists, the place of the first element that passes one, and a list without one of its elements.
-- Assumes nothing.
use Rattle.std.specs.Prelude.{◌≡◌, Bool, ◌&&◌, ◌||◌, not, get_or, take, drop}
use Rattle.std.proofs.Math.Path.{refl}
use Rattle.std.proofs.Math.Bool.{true, false}
use mathlib.Core.List.{List, [], ◌∷◌, ◌++◌}
use Prim.Native.Nat.{ℕ, zero, suc, ◌≤◌, ◌<◌}
use native.Mathlib.Omega.{arith}
use Rattle.std.proofs.Math.ListN.{length}
use Rattle.lists.specs.Pick.{pick, pick_ind}
use Rattle.lists.specs.Equal.{and_fst, and_snd, and_both}
use Rattle.lists.specs.All.{All, both, none}

-- each element passes
unfoldable pub every : {A : Type 0} → (A → Bool) → List A → Bool
every f [] = true
every f (x ∷ xs) = f x && every f xs

-- an element passes
unfoldable pub any : {A : Type 0} → (A → Bool) → List A → Bool
any f [] = false
any f (x ∷ xs) = f x || any f xs

-- no two elements are alike
unfoldable pub unique : {A : Type 0} → (A → A → Bool) → List A → Bool
unique alike [] = true
unique alike (x ∷ xs) = not (any (alike x) xs) && unique alike xs

-- the elements that pass, in order
unfoldable pub select : {A : Type 0} → (A → Bool) → List A → List A
select f [] = []
select f (x ∷ xs) = pick (f x) (x ∷ select f xs) (select f xs)

-- the place of the first element that passes, or the length where none does
unfoldable pub place : {A : Type 0} → (A → Bool) → List A → ℕ
place f [] = 0
place f (x ∷ xs) = pick (f x) 0 (suc (place f xs))

-- all but the element in place k
unfoldable pub without : {A : Type 0} → ℕ → List A → List A
without k l = take k l ++ drop (suc k) l

module _ {A : Type 0} (f : A → Bool) where
  pub every_all : (xs : List A) → every f xs ≡ true → All (λ x. f x ≡ true) xs
  unfolding every
  every_all [] e = none
  every_all (x ∷ xs) e = both (and_fst _ _ e) (every_all xs (and_snd (f x) _ e))

  pub all_every : {xs : List A} → All (λ x. f x ≡ true) xs → every f xs ≡ true
  unfolding every
  all_every none = refl
  all_every (both e a) = and_both _ _ e (all_every a)

  pub place_most : (xs : List A) → place f xs ≤ length xs
  unfolding place
  place_most [] = omega arith
  place_most (x ∷ xs) = pick_ind (λ n. n ≤ suc (length xs)) (f x) (λ _. omega arith) (λ _. let z = place_most xs in omega arith)

  -- what stands in the place that was found passes
  pub place-passes : (xs : List A) (z : A) → place f xs < length xs → f (get_or xs (place f xs) z) ≡ true
  unfolding place pick
  place-passes [] z h = absurd (omega arith)
  place-passes (x ∷ xs) z h = go (f x) refl (place-passes xs z) h
    where
      go : (b : Bool) → f x ≡ b → (place f xs < length xs → f (get_or xs (place f xs) z) ≡ true) → pick b 0 (suc (place f xs)) < suc (length xs)
          → f (get_or (x ∷ xs) (pick b 0 (suc (place f xs))) z) ≡ true
      go true e ih l = e
      go false e ih l = ih (omega arith)

  -- nothing before it does
  pub place-first : (xs : List A) (z : A) (i : ℕ) → i < place f xs → f (get_or xs i z) ≡ false
  unfolding place pick
  place-first [] z i h = absurd (omega arith)
  place-first (x ∷ xs) z i h = go (f x) refl (place-first xs z) i h
    where
      go : (b : Bool) → f x ≡ b → ((i : ℕ) → i < place f xs → f (get_or xs i z) ≡ false) → (i : ℕ) → i < pick b 0 (suc (place f xs))
          → f (get_or (x ∷ xs) i z) ≡ false
      go true e ih i l = absurd (omega arith)
      go false e ih zero l = e
      go false e ih (suc i) l = ih i (omega arith)
