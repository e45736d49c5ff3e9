-- Rearrangements of a list, and a test for them.
-- Assumes nothing.
use Rattle.std.specs.Prelude.{◌≡◌, Bool, ◌&&◌, ◌||◌, ltb}
use Rattle.std.proofs.Math.Path.{refl, ap, subst}
use Rattle.std.proofs.Common.{sym, ◌∙◌, true≢false}
use Rattle.std.proofs.Math.Bool.{true, false, not}
use mathlib.Core.List.{List, [], ◌∷◌, map}
use Prim.Native.Nat.{suc, ◌<◌}
use native.Mathlib.Omega.{arith}
use Rattle.std.proofs.Math.ListN.{length}
use borrow.Author.Tests.{ltb-true, lt-ltb, not-true}
use Rattle.lists.specs.Pick.{pick, pick_true, pick-false}
use Rattle.lists.specs.Equal.{Is, is_t, is_f, is, and_fst, and_snd, and_both, or_fst, or_snd, or_both}
use Rattle.lists.specs.All.{All, both, none}
use Rattle.lists.specs.Search.{any, unique, select, place, without}

-- ys is xs with x put in somewhere; xs is a rearrangement of ys
pub data Inserted {A : Type 0} (x : A) : List A → List A → Type 0 where
  front : {xs : List A} → Inserted x xs (x ∷ xs)
  behind : {y : A} {xs ys : List A} → Inserted x xs ys → Inserted x (y ∷ xs) (y ∷ ys)

pub data Rearranged {A : Type 0} : List A → List A → Type 0 where
  nil : Rearranged [] []
  cons : {x : A} {xs ys zs : List A} → Rearranged xs ys → Inserted x ys zs → Rearranged (x ∷ xs) zs

-- the test: each element of the first list is taken out of the second, and nothing is left
unfoldable pub is_rearranged : {A : Type 0} → (A → A → Bool) → List A → List A → Bool
is_rearranged alike [] [] = true
is_rearranged alike [] (y ∷ ys) = false
is_rearranged alike (x ∷ xs) ys = ltb (place (alike x) ys) (length ys) && is_rearranged alike xs (without (place (alike x) ys) ys)

module _ {A : Type 0} where
  pub inserted-length : {x : A} {xs ys : List A} → Inserted x xs ys → length ys ≡ suc (length xs)
  inserted-length front = refl
  inserted-length (behind i) = ap suc (inserted-length i)

  pub rearranged_length : {xs ys : List A} → Rearranged xs ys → length xs ≡ length ys
  rearranged_length nil = refl
  rearranged_length (cons r i) = ap suc (rearranged_length r) ∙ sym (inserted-length i)

  inserted_all : {F : A → Type 0} {x : A} {xs ys : List A} → Inserted x xs ys → All F ys → F x × All F xs
  inserted_all front (both f a) = (f, a)
  inserted_all (behind i) (both f a) = let (g, b) = inserted_all i a in (g, both f b)

  -- what holds of each element of a list holds of each of a rearrangement's
  pub rearranged_all : {F : A → Type 0} {xs ys : List A} → Rearranged xs ys → All F ys → All F xs
  rearranged_all nil a = none
  rearranged_all (cons r i) a = let (f, b) = inserted_all i a in both f (rearranged_all r b)

  -- a list is a rearrangement of itself
  pub rearranged_self : (xs : List A) → Rearranged xs xs
  rearranged_self [] = nil
  rearranged_self (x ∷ xs) = cons (rearranged_self xs) front

-- Rearrangements go both ways, and one after another.
module _ {A : Type 0} where
  put_back : {x : A} {xs ys zs : List A} → Inserted x ys zs → Rearranged ys xs → Rearranged zs (x ∷ xs)
  put_back front r = cons r front
  put_back {x = x} {xs = xs} (behind {y = y} {xs = xs'} {ys = ys} i) (cons {ys = ys'} r j) = cons (put_back {xs = ys'} i r) (behind j)

  pub rearranged_sym : {xs ys : List A} → Rearranged xs ys → Rearranged ys xs
  rearranged_sym nil = nil
  rearranged_sym (cons r i) = put_back i (rearranged_sym r)

  -- of two elements put in, either may be the first
  swapped : {x y : A} {ks ls ms : List A} → Inserted x ks ls → Inserted y ls ms → (ns : List A) × Inserted y ks ns × Inserted x ns ms
  swapped i front = (_, front, behind i)
  swapped front (behind j) = (_, j, front)
  swapped {x = x} {y = y} (behind {y = y'} {xs = xs} i) (behind {xs = xs'} {ys = ys} j) = let (ns, a, b) = swapped {ks = xs} i j in (_, behind a, behind b)

  taken_out : {x : A} {xs ys zs : List A} → Inserted x xs ys → Rearranged ys zs → (ws : List A) × Inserted x ws zs × Rearranged xs ws
  taken_out front (cons r i) = (_, i, r)
  taken_out (behind i) (cons r j) =
      let (ws, a, b) = taken_out i r in
      let (ns, p, q) = swapped a j in
      (ns, q, cons b p)

  pub rearranged_trans : {xs ys zs : List A} → Rearranged xs ys → Rearranged ys zs → Rearranged xs zs
  rearranged_trans nil q = q
  rearranged_trans (cons r i) q = let (ws, a, b) = taken_out i q in cons (rearranged_trans r b) a

module _ {A : Type 0} (alike : A → A → Bool) (same : (x y : A) → alike x y ≡ true → x ≡ y) where
  taken : (x : A) (ys : List A) → place (alike x) ys < length ys → Inserted x (without (place (alike x) ys) ys) ys
  unfolding place without pick
  taken x [] h = absurd (omega arith)
  taken x (y ∷ ys) h = go (alike x y) refl (taken x ys) h
    where
      go : (b : Bool) → alike x y ≡ b → (place (alike x) ys < length ys → Inserted x (without (place (alike x) ys) ys) ys)
          → pick b 0 (suc (place (alike x) ys)) < suc (length ys) → Inserted x (without (pick b 0 (suc (place (alike x) ys))) (y ∷ ys)) (y ∷ ys)
      go true e ih h = subst (λ z. Inserted x ys (z ∷ ys)) (same x y e) front
      go false e ih h = behind (ih (omega arith))

  -- the test is passed by rearrangements alone
  pub is_rearranged_lem : (xs ys : List A) → is_rearranged alike xs ys ≡ true → Rearranged xs ys
  unfolding is_rearranged
  is_rearranged_lem [] [] e = nil
  is_rearranged_lem [] (y ∷ ys) e = absurd (true≢false (sym e))
  is_rearranged_lem (x ∷ xs) ys e =
      cons (is_rearranged_lem xs (without (place (alike x) ys) ys) (and_snd (ltb (place (alike x) ys) (length ys)) _ e)) (taken x ys (ltb-true _ _ (and_fst _ _ e)))

module _ {A : Type 0} (alike : A → A → Bool) (own : (x : A) → alike x x ≡ true) (flip : (x y : A) → alike x y ≡ true → alike y x ≡ true) where
  -- no element but the one put in is like it
  lone : (x : A) {xs ys : List A} → Inserted x xs ys → unique alike ys ≡ true → any (alike x) xs ≡ false
  unfolding unique any
  lone x front u = not-true _ (and_fst _ _ u)
  lone x (behind {y = y} {xs = xs} {ys = ys} i) u =
      or_both _ _ (not_other (is (alike x y))) (lone x i (and_snd (not (any (alike y) ys)) _ u))
    where
      in_any : {xs ys : List A} → Inserted x xs ys → alike y x ≡ true → any (alike y) ys ≡ true
      in_any front e = rw e
      in_any (behind {y = z} i) e = or_right (alike y z) _ (in_any i e)
        where
          or_right : (a b : Bool) → b ≡ true → (a || b) ≡ true
          or_right true b e = refl
          or_right false b e = e

      not_other : Is (alike x y) → alike x y ≡ false
      not_other (is_f e) = e
      not_other (is_t e) = absurd (true≢false (sym (in_any i (flip x y e)) ∙ not-true _ (and_fst _ _ u)))

  any-rest : (f : A → Bool) {x : A} {xs ys : List A} → Inserted x xs ys → any f ys ≡ false → any f xs ≡ false
  unfolding any
  any-rest f {x = x} front e = or_snd (f x) _ e
  any-rest f (behind {y = y} {ys = ys} i) e = or_both (f y) _ (or_fst (f y) (any f ys) e) (any-rest f i (or_snd (f y) _ e))

  unique-rest : {x : A} {xs ys : List A} → Inserted x xs ys → unique alike ys ≡ true → unique alike xs ≡ true
  unfolding unique
  unique-rest {x = x} (front {xs = xs}) u = and_snd (not (any (alike x) xs)) _ u
  unique-rest (behind {y = y} {ys = ys} i) u =
      and_both _ _ (ap not (any-rest (alike y) i (not-true _ (and_fst _ _ u)))) (unique-rest i (and_snd (not (any (alike y) ys)) _ u))

  -- where no other element is like it, the one put in is found and taken out
  pub found_again : (x : A) {xs ys : List A} → Inserted x xs ys → any (alike x) xs ≡ false
      → (place (alike x) ys < length ys) × (without (place (alike x) ys) ys ≡ xs)
  unfolding place without any
  found_again x (front {xs = xs}) e = rw (pick_true (alike x x) 0 (suc (place (alike x) xs)) (own x), place) (omega arith, refl)
  found_again x (behind {y = y} {xs = xs} {ys = ys} i) e =
      let (l, q) = found_again x i (or_snd (alike x y) _ e) in
      rw (pick-false (alike x y) 0 (suc (place (alike x) ys)) (or_fst _ _ e), place) (omega arith, ap (λ z. y ∷ z) q)

  -- every rearrangement of a list without repetition passes the test
  pub rearranged_is : {xs ys : List A} → Rearranged xs ys → unique alike ys ≡ true → is_rearranged alike xs ys ≡ true
  unfolding is_rearranged
  rearranged_is nil u = refl
  rearranged_is (cons {x = x} {xs = xs} {zs = zs} r i) u =
      let (l, q) = found_again x i (lone x i u) in
      and_both _ _ (lt-ltb _ _ l) (ap (is_rearranged alike xs) q ∙ rearranged_is r (unique-rest i u))

-- no repetition stays so in a selection, and under a map that keeps apart
module _ {A : Type 0} (alike : A → A → Bool) where
  any-select : (f g : A → Bool) (xs : List A) → any f xs ≡ false → any f (select g xs) ≡ false
  unfolding any select pick
  any-select f g [] e = refl
  any-select f g (x ∷ xs) e = go (g x) (any-select f g xs (or_snd (f x) _ e))
    where
      go : (b : Bool) → any f (select g xs) ≡ false → any f (pick b (x ∷ select g xs) (select g xs)) ≡ false
      go true h = or_both (f x) (any f (select g xs)) (or_fst (f x) (any f xs) e) h
      go false h = h

  pub unique-select : (g : A → Bool) (xs : List A) → unique alike xs ≡ true → unique alike (select g xs) ≡ true
  unfolding unique select pick
  unique-select g [] e = refl
  unique-select g (x ∷ xs) e = go (g x) (unique-select g xs (and_snd (not (any (alike x) xs)) _ e))
    where
      go : (b : Bool) → unique alike (select g xs) ≡ true → unique alike (pick b (x ∷ select g xs) (select g xs)) ≡ true
      go true h = and_both _ _ (ap not (any-select (alike x) g xs (not-true (any (alike x) xs) (and_fst _ _ e)))) h
      go false h = h

  pub unique-map : {B : Type 0} (other : B → B → Bool) (f : A → B) → ((x y : A) → alike x y ≡ false → other (f x) (f y) ≡ false) → (xs : List A)
      → unique alike xs ≡ true → unique other (map f xs) ≡ true
  unfolding unique any
  unique-map other f h [] e = refl
  unique-map other f h (x ∷ xs) e =
      and_both _ _ (ap not (away xs (not-true _ (and_fst _ _ e)))) (unique-map other f h xs (and_snd (not (any (alike x) xs)) _ e))
    where
      away : (ys : List A) → any (alike x) ys ≡ false → any (other (f x)) (map f ys) ≡ false
      away [] e = refl
      away (y ∷ ys) e = or_both (other (f x) (f y)) _ (h x y (or_fst (alike x y) (any (alike x) ys) e)) (away ys (or_snd (alike x y) _ e))
