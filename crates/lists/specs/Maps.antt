-- Maps over changed lists.
-- Assumes nothing.
use Rattle.std.specs.Prelude.{◌≡◌, refl, ℕ, zero, suc, set, take, drop}
use Rattle.std.proofs.Common.{ap, ◌∙◌}
use Rattle.std.proofs.Math.Path.{ap₂}
use mathlib.Core.List.{List, [], ◌∷◌, ◌++◌, map, map-append}
use Rattle.lists.specs.Search.{without}

module _ {A B : Type 0} (f : A → B) where
  pub map-take : (n : ℕ) (xs : List A) → map f (take n xs) ≡ take n (map f xs)
  map-take zero xs = refl
  map-take (suc n) [] = refl
  map-take (suc n) (x ∷ xs) = ap (λ l. f x ∷ l) (map-take n xs)

  pub map-drop : (n : ℕ) (xs : List A) → map f (drop n xs) ≡ drop n (map f xs)
  map-drop zero xs = refl
  map-drop (suc n) [] = refl
  map-drop (suc n) (x ∷ xs) = map-drop n xs

  pub map-set : (xs : List A) (k : ℕ) (x : A) → map f (set xs k x) ≡ set (map f xs) k (f x)
  map-set [] k x = refl
  map-set (y ∷ xs) zero x = refl
  map-set (y ∷ xs) (suc k) x = ap (λ l. f y ∷ l) (map-set xs k x)

  pub map-without : (k : ℕ) (xs : List A) → map f (without k xs) ≡ without k (map f xs)
  unfolding without
  map-without k xs = map-append f (take k xs) (drop (suc k) xs) ∙ ap₂ (λ a b. a ++ b) (map-take k xs) (map-drop (suc k) xs)
