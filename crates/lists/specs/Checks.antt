-- Ordered checks: a list of (number, condition). A condition that holds is a fault: the first gives its number.
-- Assumes nothing.
use Rattle.std.specs.Prelude.{◌≡◌, ◌↔◌, Bool, true, false, ℕ}
use Rattle.std.proofs.Math.Path.{refl, ap}
use Rattle.std.proofs.Common.{subst, ◌∙◌}
use mathlib.Core.List.{List, [], ◌∷◌, ◌++◌}
use Rattle.lists.specs.Pick.{pick, pick_true, pick-false}
use Rattle.lists.specs.All.{All, both, none}

abbrev pub Check : Type 0
Check = ℕ × Bool

-- what `stop` makes of the first number whose condition holds; where none does, x
unfoldable pub decide : {A : Type 0} → (ℕ → A) → List Check → A → A
decide stop [] x = x
decide stop (c ∷ cs) x = pick c.1 (stop c.0) (decide stop cs x)

-- no condition of these holds
abbrev pub Passed : List Check → Type 0
Passed cs = All (λ (c : Check). c.1 ≡ false) cs

-- n is the first number whose condition holds
pub data First (n : ℕ) : List Check → Type 0 where
  here : {cs : List Check} → First n ((n, true) ∷ cs)
  later : {m : ℕ} {cs : List Check} → First n cs → First n ((m, false) ∷ cs)

module _ {A : Type 0} (stop : ℕ → A) where
  pub decide_passed : (cs : List Check) (x : A) → Passed cs → decide stop cs x ≡ x
  unfolding decide
  decide_passed [] x p = refl
  decide_passed (c ∷ cs) x (both e p) = pick-false _ _ _ e ∙ decide_passed cs x p

  pub decide-first : {n : ℕ} {cs : List Check} (x : A) → First n cs → decide stop cs x ≡ stop n
  unfolding decide pick
  decide-first x here = refl
  decide-first x (later f) = decide-first x f

  -- the first check of a list; the only one
  module _ (n : ℕ) (b : Bool) (cs : List Check) (x : A) where
    pub check_stops : b ≡ true → decide stop ((n, b) ∷ cs) x ≡ stop n
    unfolding decide
    check_stops e = pick_true _ _ _ e

    pub check_passes : b ≡ false → decide stop ((n, b) ∷ cs) x ≡ decide stop cs x
    unfolding decide
    check_passes e = pick-false _ _ _ e

  pub check_last : (n : ℕ) (b : Bool) (x : A) → b ≡ false → decide stop ((n, b) ∷ []) x ≡ x
  unfolding decide
  check_last n b x e = pick-false _ _ _ e

  -- either every check is passed, or one is the first that is not: there is nothing else
  pub decide_ind : (F : A → Type 0) (cs : List Check) (x : A) → ((n : ℕ) → First n cs → F (stop n)) → (Passed cs → F x) → F (decide stop cs x)
  unfolding decide pick
  decide_ind F [] x f g = g none
  decide_ind F ((n, true) ∷ cs) x f g = f n here
  decide_ind F ((n, false) ∷ cs) x f g = decide_ind F cs x (λ m h. f m (later h)) (λ p. g (both refl p))

  -- stopped with n exactly where n is the first whose condition holds; x, where it is reached, is no stop, and each number has its own
  pub decide_exactly : (cs : List Check) (x : A) (n : ℕ) → (Passed cs → (m : ℕ) → x ≡ stop m → ⊥) → ((m k : ℕ) → stop m ≡ stop k → m ≡ k)
      → (decide stop cs x ≡ stop n) ↔ First n cs
  decide_exactly cs x n apart same =
      (decide_ind (λ y. y ≡ stop n → First n cs) cs x (λ m f e. subst (λ k. First k cs) (same m n e) f) (λ p e. absurd (apart p n e)), decide-first x)

  -- one list behind another
  pub decide-append : (cs ds : List Check) (x : A) → decide stop (cs ++ ds) x ≡ decide stop cs (decide stop ds x)
  unfolding decide
  decide-append [] ds x = refl
  decide-append (c ∷ cs) ds x = ap (pick c.1 (stop c.0)) (decide-append cs ds x)

  -- what f makes of the outcome
  pub decide-map : {B : Type 0} (f : A → B) (cs : List Check) (x : A) → f (decide stop cs x) ≡ decide (λ n. f (stop n)) cs (f x)
  unfolding decide pick
  decide-map f [] x = refl
  decide-map f ((n, true) ∷ cs) x = refl
  decide-map f ((n, false) ∷ cs) x = decide-map f cs x
