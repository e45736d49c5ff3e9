-- Laws of specs/Line.antt.
-- Assumes nothing.
use Rattle.std.specs.Prelude.{◌≡◌, refl, Bool, true, false, List, [], ◌∷◌, ◌++◌, ℕ, suc, ◌+◌, ◌≤◌, ◌<◌, eqb, length, get_or, drop}
use Rattle.std.proofs.Common.{ap₂, add-one, arith}
use Rattle.std.proofs.Math.Seq.{drop-cons, drop-length}
use borrow.Author.Tests.{eq-eqb, ne_eqb, eqb-true}
use Rattle.lists.specs.Pick.{pick, pick_ind}
use Rattle.text.specs.Line.{begins}

pub begins_all : (s w : List ℕ) (i : ℕ) → i ≡ length w → begins (drop i s) (drop i w) ≡ true
unfolding begins
begins_all s w i e = rw (e, drop-length w)

pub begins-short : (s w : List ℕ) → length s < length w → begins s w ≡ false
unfolding begins
begins-short s [] h = absurd (omega arith)
begins-short [] (x ∷ w) h = refl
begins-short (c ∷ s) (x ∷ w) h = pick_ind (λ (b : Bool). b ≡ false) (eqb c x) (λ e. begins-short s w (omega arith))
    (λ e. refl)

pub begins-long : (s w : List ℕ) → begins s w ≡ true → length w ≤ length s
unfolding begins
begins-long s [] h = omega arith
begins-long [] (x ∷ w) h = absurd (let z : ◌≡◌ {A = ℕ} 0 1 = cc in omega arith)
begins-long (c ∷ s) (x ∷ w) h =
    pick_ind (λ (b : Bool). b ≡ true → suc (length w) ≤ suc (length s)) (eqb c x) (λ e g. let z = begins-long s w g in
    omega arith)
    (λ e g. absurd (let z : ◌≡◌ {A = ℕ} 0 1 = cc in omega arith)) h

pub begins_is : (s w : List ℕ) → begins s w ≡ true → s ≡ w ++ drop (length w) s
unfolding begins
begins_is s [] h = refl
begins_is [] (x ∷ w) h = absurd (let z : ◌≡◌ {A = ℕ} 0 1 = cc in omega arith)
begins_is (c ∷ s) (x ∷ w) h =
    pick_ind (λ (b : Bool). b ≡ true → c ∷ s ≡ x ∷ (w ++ drop (length w) s)) (eqb c x)
    (λ e g. ap₂ (λ (d : ℕ) (t : List ℕ). d ∷ t) (eqb-true c x e) (begins_is s w g))
    (λ e g. absurd (let z : ◌≡◌ {A = ℕ} 0 1 = cc in omega arith)) h

module _ (s w : List ℕ) (i : ℕ) (hs : i < length s) (hw : i < length w) where
  pub begins-other : (get_or s i 0 ≡ get_or w i 0 → ⊥) → begins (drop i s) (drop i w) ≡ false
  unfolding begins pick
  begins-other h = rw (drop-cons s i 0 hs, drop-cons w i 0 hw, ne_eqb _ _ h)

  pub begins_same : get_or s i 0 ≡ get_or w i 0 → begins (drop i s) (drop i w) ≡ begins (drop (i + 1) s) (drop (i + 1) w)
  unfolding begins pick
  begins_same h = rw (add-one, drop-cons s i 0 hs, drop-cons w i 0 hw, eq-eqb _ _ h)
