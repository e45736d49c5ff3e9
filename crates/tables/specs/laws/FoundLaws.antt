-- What a search found, read by its answer; and the answer of a search that goes over the rows from a place on.
-- Assumes nothing.
use Rattle.std.specs.Prelude.{◌≡◌, Bool, true, false, ℕ, ◌<◌, ◌≤◌, ltb, Option, Some, None, is_some}
use Rattle.std.specs.Prelude.{unwrap_or, List, length, get_or, take, MatchOption, IfSome}
use Rattle.std.proofs.Math.Path.{refl, ap, sym}
use Rattle.std.proofs.Common.{◌∙◌, ltb-true, ltb-false, lt-ltb, le-ltb, length-take-le, get_or-take, true≢false, inl}
use Rattle.std.proofs.Common.{inr}
use Rattle.std.proofs.lemmas.Bool.{cases_lt}
use native.Mathlib.Omega.{arith}
use Rattle.lists.specs.Pick.{pick_ind, pick_true, pick-false}
use Rattle.lists.specs.Search.{place, place-passes, place-first}
use Rattle.tables.specs.Found.{found}

module _ (n k : ℕ) where
  pub found_at : k < n → found n k ≡ Some k
  unfolding found
  found_at h = pick_true _ _ _ (lt-ltb k n h)

  pub found_behind : n ≤ k → found n k ≡ None
  unfolding found
  found_behind h = pick-false _ _ _ (le-ltb k n h)

  -- the place, or n where there is none
  pub found_or : k ≤ n → unwrap_or (found n k) n ≡ k
  unfolding found
  found_or l = pick_ind (λ o. unwrap_or o n ≡ k) (ltb k n) {x = Some k} {y = None} (λ b. refl)
      (λ b. let h = ltb-false k n b in omega arith)

  pub found_within : is_some (found n k) ≡ true → k < n
  unfolding found
  found_within = pick_ind (λ o. is_some o ≡ true → k < n) (ltb k n) {x = Some k} {y = None} (λ b e. ltb-true k n b)
      (λ b e. grind (arith, e))

  pub found_nowhere : is_some (found n k) ≡ false → n ≤ k
  unfolding found
  found_nowhere = pick_ind (λ o. is_some o ≡ false → n ≤ k) (ltb k n) {x = Some k} {y = None} (λ b e. grind (arith, e))
      (λ b e. ltb-false k n b)

  pub found_none : None ≡ found n k → n ≤ k
  found_none e = found_nowhere (ap is_some (sym e))

  pub found_some : {x : ℕ} → Some x ≡ found n k → (x ≡ k) × (x < n)
  found_some {x} e =
      let h = found_within (ap is_some (sym e)) in
      let q : x ≡ k = ap (λ o. unwrap_or o 0) (e ∙ found_at h) in (q, omega arith)

-- a place that is found is one of n
pub found_bounds : (n k : ℕ) (r : Option ℕ) → r ≡ found n k → IfSome r (λ x. x < n)
found_bounds n k None e = tt
found_bounds n k (Some x) e = (found_some n k e).1

-- the rows before `start` do not pass
module _ {A : Type 0} (z : A) (f : A → Bool) (xs : List A) (n start : ℕ) (fits : n ≤ length xs)
    (before : (k : ℕ) → k < start → f (get_or xs k z) ≡ false) where
  size : length (take n xs) ≡ n
  size = length-take-le n xs fits

  -- a row that passes stands at the place or behind it
  passes : (k : ℕ) → k < n → f (get_or xs k z) ≡ true → place f (take n xs) ≤ k
  passes k h e =
      let not_below : k < place f (take n xs) → ⊥ = λ b. true≢false (sym e ∙ ap f (sym (get_or-take n xs k z h))
      ∙ place-first f (take n xs) z k b) in
      omega (arith, not_below)

  -- none passes below m, so the place does not stand there
  behind : (m : ℕ) → m ≤ n → ((k : ℕ) → start ≤ k → k < m → f (get_or xs k z) ≡ false) → m ≤ place f (take n xs)
  behind m l g =
      let p = place f (take n xs) in
      let holds : p < m → f (get_or xs p z) ≡ true = λ h. ap f (sym (get_or-take n xs p z (omega arith)))
      ∙ place-passes f (take n xs) z (rw size (omega arith)) in
      let fails : p < m → f (get_or xs p z) ≡ false = λ h. elim
      (cases_lt p start) [ inl b ↦ before p b | inr b ↦ g p b h ] in
      let not_below : p < m → ⊥ = λ h. true≢false (sym (holds h) ∙ fails h) in
      omega (arith, not_below)

  -- r is the first from there on of which Yes holds
  pub found_by : (r : Option ℕ) (Yes No : ℕ → Type 0) → ((k : ℕ) → Yes k → f (get_or xs k z) ≡ true)
      → ((k : ℕ) → No k → f (get_or xs k z) ≡ false)
      → MatchOption r ((k : ℕ) → start ≤ k → k < n → No k)
      (λ i. (start ≤ i) × (i < n) × Yes i × ((k : ℕ) → start ≤ k → k < i → No k))
      → r ≡ found n (place f (take n xs))
  found_by None Yes No holds fails g = sym (found_behind n _ (behind n (omega arith) (λ k b h. fails k (g k b h))))
  found_by (Some i) Yes No holds fails (a, h, e, g) =
      let l = behind i (omega arith) (λ k b t. fails k (g k b t)) in
      let m = passes i h (holds i e) in
      let q : place f (take n xs) ≡ i = omega arith in
      sym (rw q (found_at n i h))
