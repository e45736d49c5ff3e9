-- What std's words for a search and for a beginning come to here.
-- Assumes nothing.
use Rattle.std.specs.Prelude.{◌≡◌, refl, Bool, true, false, not, cond, List, [], ◌∷◌, ℕ, suc, ◌+◌, ◌≤◌, ◌<◌, ◌&&◌}
use Rattle.std.specs.Prelude.{length, eqb, nat_lt, None, Some}
use Rattle.std.specs.List.{position, position_or_len, starts_with}
use Rattle.std.proofs.Common.{sym, arith, ltb-true, ltb-false}
use borrow.Author.Tests.{eq-eqb, ne_eqb, eqb-true, eqb-false}
use Rattle.lists.specs.Equal.{Is, is_t, is_f, is}
use Rattle.lists.specs.Pick.{pick}
use Rattle.lists.specs.Search.{place}
use Rattle.text.specs.Line.{begins}

module _ (f : ℕ → Bool) where
  place_is : (s : List ℕ) → place f s ≡ position_or_len f s
  unfolding place pick
  place_is [] = refl
  place_is (x ∷ s) = go (f x) (place_is s)
    where
      go : (b : Bool) → place f s ≡ position_or_len f s
          → pick b 0 (suc (place f s)) ≡ cond (not b) (1 + position_or_len f s) 0
      go true e = refl
      go false e = omega arith

  module _ (s : List ℕ) where
    pub place_found : (k : ℕ) → position f s ≡ Some k → (place f s ≡ k) × (k < length s)
    place_found k h = go (is (nat_lt (position_or_len f s) (length s)))
      where
        go : Is (nat_lt (position_or_len f s) (length s)) → (place f s ≡ k) × (k < length s)
        go (is_t e) =
            let i = ltb-true _ _ e in
            let j : position_or_len f s ≡ k = cc (rw e at h) in
            let p = place_is s in
            (omega arith, omega arith)
        go (is_f e) = absurd (cc (rw e at h))

    pub place_missed : position f s ≡ None → length s ≤ place f s
    place_missed h = go (is (nat_lt (position_or_len f s) (length s)))
      where
        go : Is (nat_lt (position_or_len f s) (length s)) → length s ≤ place f s
        go (is_t e) = absurd (cc (rw e at h))
        go (is_f e) = let i = ltb-false _ _ e in let p = place_is s in omega arith

pub begins_starts : (s w : List ℕ) → starts_with eqb s w ≡ begins s w
unfolding begins pick
begins_starts s [] = refl
begins_starts [] (x ∷ w) = refl
begins_starts (c ∷ s) (x ∷ w) = go (is (eqb c x)) (begins_starts s w)
  where
    go : Is (eqb c x) → starts_with eqb s w ≡ begins s w
        → (eqb x c && starts_with eqb s w) ≡ pick (eqb c x) (begins s w) false
    go (is_t e) h = rw (e, eq-eqb x c (sym (eqb-true c x e))) h
    go (is_f e) h = rw (e, ne_eqb x c (λ d. eqb-false c x e (sym d)))
