-- A search that has come to place i of a list: what remains of it. Over any element; assumes nothing.
use Rattle.std.specs.Prelude.{◌≡◌, refl, Bool, true, false, not, List, [], ◌∷◌, length, get_or, take, drop}
use Rattle.std.proofs.Math.Path.{ap}
use Rattle.std.proofs.Common.{◌∙◌, drop_of_length-le, drop-cons, get_or-take, length-take-le}
use Prim.Native.Nat.{ℕ, suc, ◌+◌, ◌≤◌, ◌<◌}
use native.Mathlib.Omega.{arith}
use Rattle.std.proofs.Math.Numerals.{add-one}
use Rattle.lists.specs.Pick.{pick, pick_true, pick-false}
use Rattle.lists.specs.Equal.{and_both}
use Rattle.lists.specs.Search.{place, every}

-- the search of xs, seen from place i
module _ {A : Type 0} (f : A → Bool) (z : A) (k : ℕ) (xs : List A) (i : ℕ) (so_far : k ≡ i + place f (drop i xs)) where
  pub scan-here : i < length xs → f (get_or xs i z) ≡ true → i ≡ k
  unfolding place
  scan-here h e =
      let d : place f (drop i xs) ≡ 0 = ap (place f) (drop-cons xs i z h) ∙ pick_true _ _ _ e in
      omega arith

  pub scan_on : i < length xs → f (get_or xs i z) ≡ false → k ≡ i + 1 + place f (drop (i + 1) xs)
  unfolding place
  scan_on h e =
      let d : place f (drop i xs) ≡ suc (place f (drop (suc i) xs)) = ap (place f) (drop-cons xs i z h) ∙ pick-false _ _ _ e in
      rw add-one (omega arith)

  pub scan-end : length xs ≤ i → i ≡ k
  unfolding place
  scan-end h = let d : place f (drop i xs) ≡ 0 = ap (place f) (drop_of_length-le xs h) in omega arith

-- the first n elements of a list, seen from place i: what remains begins with element i, or is nothing
module _ {A : Type 0} (z : A) (l : List A) (n i : ℕ) (fits : n ≤ length l) where
  pub rest : i < n → drop i (take n l) ≡ get_or l i z ∷ drop (i + 1) (take n l)
  rest h =
      let e : length (take n l) ≡ n = length-take-le n l fits in
      drop-cons (take n l) i z (omega arith) ∙ rw (get_or-take n l i z h, add-one i)

  pub rest_none : n ≤ i → drop i (take n l) ≡ []
  rest_none h = let e : length (take n l) ≡ n = length-take-le n l fits in drop_of_length-le (take n l) {i = i} (omega arith)

-- nothing before the place that was found passes
pub every-before : {A : Type 0} (f : A → Bool) (xs : List A) → every (λ x. not (f x)) (take (place f xs) xs) ≡ true
unfolding every place pick
every-before f [] = refl
every-before f (x ∷ xs) = go (f x) refl (every-before f xs)
  where
    go : (b : Bool) → f x ≡ b → every (λ x. not (f x)) (take (place f xs) xs) ≡ true
        → every (λ x. not (f x)) (take (pick b 0 (suc (place f xs))) (x ∷ xs)) ≡ true
    go true e ih = refl
    go false e ih = and_both _ _ (ap not e) ih
