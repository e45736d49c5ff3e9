-- A number that a list does not have, found among one more than its elements are.
-- Assumes nothing.
use Rattle.std.specs.Prelude.{◌≡◌, List, [], ◌∷◌, ℕ, zero, suc, ◌+◌, ◌≤◌, ◌<◌, eqb, ltb, length, get_or}
use Rattle.std.proofs.Common.{sym, arith, eqb-true, ltb-true, ltb-false}
use Rattle.std.proofs.lemmas.Bool.{eqb-false}
use Rattle.lists.specs.Pick.{pick, pick_ind}
use Rattle.lists.specs.All.{All, both, none}
use Rattle.lists.specs.Search.{place, without, place-passes}
use Rattle.lists.specs.Places.{at_all, none_place, length_without}

-- a, or where the list has it, the next that the list without it has not
unfoldable pub free : (n a : ℕ) → List ℕ → ℕ
free zero a xs = a
free (suc n) a xs = pick (ltb (place (eqb a) xs) (length xs)) (free n (suc a) (without (place (eqb a) xs) xs)) a

pub record Free (n a : ℕ) (xs : List ℕ) (x : ℕ) : Type 0 where
  pub from : a ≤ x
  pub to : x ≤ a + n
  pub new : All (λ y. y ≡ x → ⊥) xs

all_back : {A : Type 0} {F : A → Type 0} (z : A) (k : ℕ) (xs : List A) → All F (without k xs) → F (get_or xs k z) → All F xs
unfolding without
all_back z k [] a f = none
all_back z zero (x ∷ xs) a f = both f a
all_back z (suc k) (x ∷ xs) (both g a) f = both g (all_back z k xs a f)

pub free_new : (n a : ℕ) (xs : List ℕ) → length xs ≤ n → Free n a xs (free n a xs)
unfolding free
free_new zero a [] h = record { from = omega arith; to = omega arith; new = none }
free_new zero a (x ∷ xs) h = absurd (omega arith)
free_new (suc n) a xs h =
    pick_ind (Free (suc n) a xs) (ltb (place (eqb a) xs) (length xs))
    (λ e.
    let l : place (eqb a) xs < length xs = ltb-true _ _ e in
    let m = length_without (place (eqb a) xs) xs l in
    let r = free_new n (suc a) (without (place (eqb a) xs) xs) (omega arith) in
    let lo = r.from in
    let hi = r.to in
    let is : a ≡ get_or xs (place (eqb a) xs) 0 = eqb-true _ _ (place-passes (eqb a) xs 0 l) in
    record { from = omega arith; to = omega arith; new = all_back 0 (place (eqb a) xs) xs r.new (λ q. omega arith) })
    (λ e. record {
      from = omega arith;
      to = omega arith;
      new = at_all 0 xs (λ i l q. eqb-false a (get_or xs i 0) (none_place (eqb a) 0 xs i (ltb-false _ _ e) l) (sym q));
    })
