-- What tests over a list, searches and removals say, place by place.
-- Assumes nothing.
use Rattle.std.specs.Prelude.{◌≡◌, Bool, ◌&&◌, ◌||◌, leb, ltb, get_or}
use Rattle.std.proofs.Math.Path.{refl, ap, ap₂, sym}
use Rattle.std.proofs.Common.{◌∙◌, true≢false, arith, leb-true, leb-false, ltb-true, ltb-false}
use Rattle.std.proofs.Math.Bool.{true, false, not}
use mathlib.Core.List.{List, [], ◌∷◌, ◌++◌, map, cons≢nil}
use Prim.Native.Nat.{ℕ, zero, suc, ◌≤◌, ◌<◌}
use Rattle.std.proofs.Math.ListN.{length, set}
use Rattle.std.proofs.Math.Seq.{map-set_same}
use Rattle.std.proofs.lemmas.Bool.{not-true}
use Rattle.lists.specs.Pick.{pick, pick_true, pick-false}
use Rattle.lists.specs.Equal.{Is, is_t, is_f, is, and_fst, and_snd, and_both, or_fst, or_snd, or_both}
use Rattle.lists.specs.All.{All, both, none, all_append, all_take, all_drop}
use Rattle.lists.specs.Cells.{tab}
use Rattle.lists.specs.Search.{every, any, unique, select, place, place-passes, place-first, without}

-- two places of which neither is before the other
pub same_place : (i j : ℕ) → (i < j → ⊥) → (j < i → ⊥) → i ≡ j
same_place i j f g = go (is (ltb i j)) (is (ltb j i))
  where
    go : Is (ltb i j) → Is (ltb j i) → i ≡ j
    go (is_t m) n = absurd (f (ltb-true _ _ m))
    go (is_f m) (is_t n) = absurd (g (ltb-true _ _ n))
    go (is_f m) (is_f n) = omega (arith, ltb-false i j m, ltb-false j i n)

module _ {A : Type 0} (f : A → Bool) (z : A) where
  pub every-at : (xs : List A) (k : ℕ) → every f xs ≡ true → k < length xs → f (get_or xs k z) ≡ true
  unfolding every
  every-at [] k e h = absurd (omega arith)
  every-at (x ∷ xs) zero e h = and_fst _ _ e
  every-at (x ∷ xs) (suc k) e h = every-at xs k (and_snd (f x) _ e) (omega arith)

  pub at_every : (xs : List A) → ((k : ℕ) → k < length xs → f (get_or xs k z) ≡ true) → every f xs ≡ true
  unfolding every
  at_every [] h = refl
  at_every (x ∷ xs) h = and_both _ _ (h 0 (omega arith)) (at_every xs (λ k l. h (suc k) (omega arith)))

  pub any_at : (xs : List A) (k : ℕ) → any f xs ≡ false → k < length xs → f (get_or xs k z) ≡ false
  unfolding any
  any_at [] k e h = absurd (omega arith)
  any_at (x ∷ xs) zero e h = or_fst _ _ e
  any_at (x ∷ xs) (suc k) e h = any_at xs k (or_snd (f x) _ e) (omega arith)

  pub at-any : (xs : List A) → ((k : ℕ) → k < length xs → f (get_or xs k z) ≡ false) → any f xs ≡ false
  unfolding any
  at-any [] h = refl
  at-any (x ∷ xs) h = or_both _ _ (h 0 (omega arith)) (at-any xs (λ k l. h (suc k) (omega arith)))

  -- what passes stands no earlier than the place found
  pub place-least : (xs : List A) (k : ℕ) → f (get_or xs k z) ≡ true → place f xs ≤ k
  place-least xs k e = go (is (leb (place f xs) k))
    where
      go : Is (leb (place f xs) k) → place f xs ≤ k
      go (is_t l) = leb-true _ _ l
      go (is_f l) = absurd (true≢false (sym e ∙ place-first f xs z k (leb-false _ _ l)))

  -- the place of the only one that passes
  pub place_only : (xs : List A) (k : ℕ) → k < length xs → f (get_or xs k z) ≡ true → ((i : ℕ) → i < length xs → f (get_or xs i z) ≡ true → i ≡ k) → place f xs ≡ k
  place_only xs k h e only =
      let l = place-least xs k e in
      only (place f xs) (omega arith) (place-passes f xs z (omega arith))

  -- one that is there is found there, whatever stands behind; else the first behind that passes is
  pub place-front : (xs ys : List A) → place f xs < length xs → place f (xs ++ ys) ≡ place f xs
  unfolding place
  place-front [] ys h = absurd (omega arith)
  place-front (x ∷ xs) ys h = go (is (f x)) (place-front xs ys)
    where
      go : Is (f x) → (place f xs < length xs → place f (xs ++ ys) ≡ place f xs) → place f (x ∷ xs ++ ys) ≡ place f (x ∷ xs)
      go (is_t e) ih = pick_true _ _ _ e ∙ sym (pick_true _ _ _ e)
      go (is_f e) ih = let z : place f (x ∷ xs) ≡ suc (place f xs) = pick-false _ _ _ e in pick-false _ _ _ e ∙ ap suc (ih (omega arith)) ∙ sym z

  pub place-behind : (xs : List A) (y : A) (ys : List A) → length xs ≤ place f xs → f y ≡ true → place f (xs ++ (y ∷ ys)) ≡ length xs
  unfolding place
  place-behind [] y ys h e = pick_true _ _ _ e
  place-behind (x ∷ xs) y ys h e = go (is (f x)) (λ l. place-behind xs y ys l e)
    where
      go : Is (f x) → (length xs ≤ place f xs → place f (xs ++ (y ∷ ys)) ≡ length xs) → place f (x ∷ xs ++ (y ∷ ys)) ≡ suc (length xs)
      go (is_t t) ih = let z : place f (x ∷ xs) ≡ 0 = pick_true _ _ _ t in absurd (omega arith)
      go (is_f t) ih = let z : place f (x ∷ xs) ≡ suc (place f xs) = pick-false _ _ _ t in pick-false _ _ _ t
          ∙ ap suc (ih (omega arith))

  -- none passes exactly where the place is past the end
  pub place_none : (xs : List A) → ((k : ℕ) → k < length xs → f (get_or xs k z) ≡ false) → length xs ≤ place f xs
  place_none xs h = go (is (leb (length xs) (place f xs)))
    where
      go : Is (leb (length xs) (place f xs)) → length xs ≤ place f xs
      go (is_t l) = leb-true _ _ l
      go (is_f l) = let m = leb-false _ _ l in absurd (true≢false (sym (place-passes f xs z m) ∙ h (place f xs) m))

  pub none_place : (xs : List A) (k : ℕ) → length xs ≤ place f xs → k < length xs → f (get_or xs k z) ≡ false
  none_place xs k e h = place-first f xs z k (omega arith)

  -- an element put in place k that does not pass, where the one found does not stand there; and one that does, where
  -- none did
  pub place_set_off : (xs : List A) (k : ℕ) (y : A) → f y ≡ false → (place f xs ≡ k → ⊥)
      → place f (set xs k y) ≡ place f xs
  unfolding place
  place_set_off [] k y e d = refl
  place_set_off (x ∷ xs) zero y e d = go (is (f x))
    where
      go : Is (f x) → place f (y ∷ xs) ≡ place f (x ∷ xs)
      go (is_t t) = absurd (d (pick_true _ _ _ t))
      go (is_f t) = pick-false _ _ _ e ∙ sym (pick-false _ _ _ t)
  place_set_off (x ∷ xs) (suc k) y e d = go (is (f x)) (place_set_off xs k y e)
    where
      go : Is (f x) → ((place f xs ≡ k → ⊥) → place f (set xs k y) ≡ place f xs)
          → place f (x ∷ set xs k y) ≡ place f (x ∷ xs)
      go (is_t t) ih = pick_true _ _ _ t ∙ sym (pick_true _ _ _ t)
      go (is_f t) ih =
          let z : place f (x ∷ xs) ≡ suc (place f xs) = pick-false _ _ _ t in
          pick-false _ _ _ t ∙ ap suc (ih (λ q. d (z ∙ ap suc q))) ∙ sym z

  pub place_set_on : (xs : List A) (k : ℕ) (y : A) → k < length xs → length xs ≤ place f xs → f y ≡ true
      → place f (set xs k y) ≡ k
  unfolding place
  place_set_on [] k y h l e = absurd (omega arith)
  place_set_on (x ∷ xs) zero y h l e = pick_true _ _ _ e
  place_set_on (x ∷ xs) (suc k) y h l e = go (is (f x)) (λ m. place_set_on xs k y (omega arith) m e)
    where
      go : Is (f x) → (length xs ≤ place f xs → place f (set xs k y) ≡ k) → place f (x ∷ set xs k y) ≡ suc k
      go (is_t t) ih = let z : place f (x ∷ xs) ≡ 0 = pick_true _ _ _ t in absurd (omega arith)
      go (is_f t) ih = let z : place f (x ∷ xs) ≡ suc (place f xs) = pick-false _ _ _ t in pick-false _ _ _ t
          ∙ ap suc (ih (omega arith))

  -- nothing is selected where none passes
  pub select_none : (xs : List A) (k : ℕ) → select f xs ≡ [] → k < length xs → f (get_or xs k z) ≡ false
  unfolding select pick
  select_none [] k e h = absurd (omega arith)
  select_none (x ∷ xs) k e h = go (f x) refl (select_none xs) k e h
    where
      go : (b : Bool) → f x ≡ b → ((k : ℕ) → select f xs ≡ [] → k < length xs → f (get_or xs k z) ≡ false)
          → (k : ℕ) → pick b (x ∷ select f xs) (select f xs) ≡ [] → k < suc (length xs) → f (get_or (x ∷ xs) k z) ≡ false
      go true e ih k s h = absurd (cons≢nil s)
      go false e ih zero s h = e
      go false e ih (suc k) s h = ih k s (omega arith)

  pub none_select : (xs : List A) → ((k : ℕ) → k < length xs → f (get_or xs k z) ≡ false) → select f xs ≡ []
  unfolding select
  none_select [] h = refl
  none_select (x ∷ xs) h = pick-false _ _ _ (h 0 (omega arith)) ∙ none_select xs (λ k l. h (suc k) (omega arith))

-- what holds in each place holds of each element
pub at_all : {A : Type 0} {F : A → Type 0} (z : A) (xs : List A) → ((k : ℕ) → k < length xs → F (get_or xs k z)) → All F xs
at_all z [] h = none
at_all z (x ∷ xs) h = both (h 0 (omega arith)) (at_all z xs (λ k l. h (suc k) (omega arith)))

pub all_place : {A : Type 0} {F : A → Type 0} (z : A) (k : ℕ) {xs : List A} → All F xs → k < length xs → F (get_or xs k z)
all_place z k none h = absurd (omega arith)
all_place z zero (both f a) h = f
all_place z (suc k) (both f a) h = all_place z k a (omega arith)

-- what holds in each other place, and of the new element, holds where one is put in place
pub all_put : {A : Type 0} {F : A → Type 0} (z : A) (xs : List A) (k : ℕ) (y : A) → F y → ((i : ℕ) → i < length xs → (i ≡ k → ⊥) → F (get_or xs i z))
    → All F (set xs k y)
all_put z [] k y f h = none
all_put z (x ∷ xs) zero y f h = both f (at_all z xs (λ i l. h (suc i) (omega arith) (λ e. omega arith)))
all_put z (x ∷ xs) (suc k) y f h = both (h 0 (omega arith) (λ e. omega arith)) (all_put z xs k y f (λ i l d. h (suc i) (omega arith) (λ e. d (omega arith))))

-- what holds of each cell
pub all_tab : {A : Type 0} {F : A → Type 0} (n : ℕ) (f : ℕ → A) → ((i : ℕ) → i < n → F (f i)) → All F (tab n f)
unfolding tab
all_tab zero f h = none
all_tab (suc n) f h = both (h 0 (omega arith)) (all_tab n (λ i. f (suc i)) (λ i l. h (suc i) (omega arith)))

module _ {A : Type 0} (alike : A → A → Bool) (z : A) where
  pub unique-at : (xs : List A) (i j : ℕ) → unique alike xs ≡ true → i < j → j < length xs → alike (get_or xs i z) (get_or xs j z) ≡ false
  unfolding unique
  unique-at [] i j e h l = absurd (omega arith)
  unique-at (x ∷ xs) i zero e h l = absurd (omega arith)
  unique-at (x ∷ xs) zero (suc j) e h l = any_at (alike x) z xs j (not-true _ (and_fst _ _ e)) (omega arith)
  unique-at (x ∷ xs) (suc i) (suc j) e h l = unique-at xs i j (and_snd (not (any (alike x) xs)) _ e) (omega arith) (omega arith)

  pub at-unique : (xs : List A) → ((i j : ℕ) → i < j → j < length xs → alike (get_or xs i z) (get_or xs j z) ≡ false) → unique alike xs ≡ true
  unfolding unique
  at-unique [] h = refl
  at-unique (x ∷ xs) h =
      and_both _ _ (ap not (at-any (alike x) z xs (λ k l. h 0 (suc k) (omega arith) (omega arith))))
      (at-unique xs (λ i j k l. h (suc i) (suc j) (omega arith) (omega arith)))

  -- the same, where alike goes both ways: what is alike stands in one place
  pub unique_same : ((x y : A) → alike x y ≡ true → alike y x ≡ true) → (xs : List A) (i j : ℕ) → unique alike xs ≡ true → i < length xs → j < length xs
      → alike (get_or xs i z) (get_or xs j z) ≡ true → i ≡ j
  unique_same both_ways xs i j e h l a =
      same_place i j (λ m. true≢false (sym a ∙ unique-at xs i j e m l)) (λ m. true≢false (sym (both_ways _ _ a) ∙ unique-at xs j i e m h))

  pub same_unique : (xs : List A) → ((i j : ℕ) → i < length xs → j < length xs → alike (get_or xs i z) (get_or xs j z) ≡ true → i ≡ j) → unique alike xs ≡ true
  same_unique xs h = at-unique xs (λ i j l m. go i j l m (is (alike (get_or xs i z) (get_or xs j z))))
    where
      go : (i j : ℕ) → i < j → j < length xs → Is (alike (get_or xs i z) (get_or xs j z)) → alike (get_or xs i z) (get_or xs j z) ≡ false
      go i j l m (is_t a) = let q = h i j (omega arith) m a in absurd (omega arith)
      go i j l m (is_f a) = a

-- the place that an element had before the one in place k was taken out
unfoldable pub skip : ℕ → ℕ → ℕ
skip zero i = suc i
skip (suc k) zero = zero
skip (suc k) (suc i) = suc (skip k i)

pub skip-before : (k i : ℕ) → i < k → skip k i ≡ i
unfolding skip
skip-before zero i h = absurd (omega arith)
skip-before (suc k) zero h = refl
skip-before (suc k) (suc i) h = ap suc (skip-before k i (omega arith))

pub skip-after : (k i : ℕ) → k ≤ i → skip k i ≡ suc i
unfolding skip
skip-after zero i h = refl
skip-after (suc k) zero h = absurd (omega arith)
skip-after (suc k) (suc i) h = ap suc (skip-after k i (omega arith))

pub skip_mono : (k i j : ℕ) → i < j → skip k i < skip k j
unfolding skip
skip_mono zero i j h = omega arith
skip_mono (suc k) i zero h = absurd (omega arith)
skip_mono (suc k) zero (suc j) h = omega arith
skip_mono (suc k) (suc i) (suc j) h = let z = skip_mono k i j (omega arith) in omega arith

pub skip_same : (k i j : ℕ) → skip k i ≡ skip k j → i ≡ j
skip_same k i j e = go (is (ltb i j)) (is (ltb j i))
  where
    go : Is (ltb i j) → Is (ltb j i) → i ≡ j
    go (is_t l) m = let z = skip_mono k i j (ltb-true i j l) in absurd (omega arith)
    go (is_f l) (is_t m) = let z = skip_mono k j i (ltb-true j i m) in absurd (omega arith)
    go (is_f l) (is_f m) = omega (arith, ltb-false i j l, ltb-false j i m)

pub skip_below : (k i n : ℕ) → suc i < n → skip k i < n
unfolding skip
skip_below zero i n h = h
skip_below (suc k) zero n h = omega arith
skip_below (suc k) (suc i) zero h = absurd (omega arith)
skip_below (suc k) (suc i) (suc n) h = let z = skip_below k i n (omega arith) in omega arith

pub skip-other : (k i : ℕ) → skip k i ≡ k → ⊥
unfolding skip
skip-other zero i e = omega arith
skip-other (suc k) zero e = omega arith
skip-other (suc k) (suc i) e = skip-other k i (omega arith)

-- every other place is one that is kept
pub unskip : (k j n : ℕ) → (j ≡ k → ⊥) → j < suc n → k < suc n → (i : ℕ) × (i < n) × (skip k i ≡ j)
unskip k j n d h l = go (is (leb k j))
  where
    go : Is (leb k j) → (i : ℕ) × (i < n) × (skip k i ≡ j)
    go (is_f e) = let m = leb-false k j e in (j, omega arith, skip-before k j m)
    go (is_t e) = up j d (leb-true _ _ e) h
      where
        up : (j : ℕ) → (j ≡ k → ⊥) → k ≤ j → j < suc n → (i : ℕ) × (i < n) × (skip k i ≡ j)
        up zero d m h = absurd (d (omega arith))
        up (suc i) d m h = (i, omega arith, skip-after k i (omega arith))

module _ {A : Type 0} where
  pub length_without : (k : ℕ) (xs : List A) → k < length xs → suc (length (without k xs)) ≡ length xs
  unfolding without
  length_without k [] h = absurd (omega arith)
  length_without zero (x ∷ xs) h = refl
  length_without (suc k) (x ∷ xs) h = ap suc (length_without k xs (omega arith))

  pub get_or-without : (k : ℕ) (xs : List A) (i : ℕ) (z : A) → k < length xs → get_or (without k xs) i z ≡ get_or xs (skip k i) z
  unfolding without skip
  get_or-without k [] i z h = absurd (omega arith)
  get_or-without zero (x ∷ xs) i z h = refl
  get_or-without (suc k) (x ∷ xs) zero z h = refl
  get_or-without (suc k) (x ∷ xs) (suc i) z h = get_or-without k xs i z (omega arith)

  pub all_without : {F : A → Type 0} (k : ℕ) {xs : List A} → All F xs → All F (without k xs)
  unfolding without
  all_without k a = all_append (all_take k a) (all_drop (suc k) a)

-- Lists in which no two elements are alike.
module _ {A : Type 0} (alike : A → A → Bool) (z : A) where
  pub unique-without : (k : ℕ) (xs : List A) → k < length xs → unique alike xs ≡ true → unique alike (without k xs) ≡ true
  unique-without k xs h e =
      at-unique alike z (without k xs) (λ i j l m.
      let n = length_without k xs h in
      rw (get_or-without k xs i z h, get_or-without k xs j z h) (unique-at alike z xs (skip k i) (skip k j) e (skip_mono k i j l) (skip_below k j (length xs) (omega arith))))

  any_snoc : (f : A → Bool) (xs : List A) (x : A) → any f xs ≡ false → f x ≡ false → any f (xs ++ (x ∷ [])) ≡ false
  unfolding any
  any_snoc f [] x e h = or_both _ _ h refl
  any_snoc f (y ∷ xs) x e h = or_both (f y) _ (or_fst (f y) _ e) (any_snoc f xs x (or_snd (f y) _ e) h)

  -- a last element that none before is alike
  pub unique_snoc : (xs : List A) (x : A) → unique alike xs ≡ true → ((k : ℕ) → k < length xs → alike (get_or xs k z) x ≡ false)
      → unique alike (xs ++ (x ∷ [])) ≡ true
  unfolding unique any
  unique_snoc [] x e h = refl
  unique_snoc (y ∷ xs) x e h =
      and_both _ _ (ap not (any_snoc (alike y) xs x (not-true _ (and_fst _ _ e)) (h 0 (omega arith))))
      (unique_snoc xs x (and_snd (not (any (alike y) xs)) _ e) (λ k l. h (suc k) (omega arith)))

-- whether elements are alike in what f gives is seen on what f gives
module _ {A B : Type 0} (f : A → B) (alike : B → B → Bool) where
  any-map : (b : B) (xs : List A) → any (λ x. alike b (f x)) xs ≡ any (alike b) (map f xs)
  unfolding any
  any-map b [] = refl
  any-map b (x ∷ xs) = ap (λ t. alike b (f x) || t) (any-map b xs)

  pub unique-map : (xs : List A) → unique (λ x y. alike (f x) (f y)) xs ≡ unique alike (map f xs)
  unfolding unique
  unique-map [] = refl
  unique-map (x ∷ xs) = ap₂ (λ a b. not a && b) (any-map (f x) xs) (unique-map xs)

  -- so it is not changed by an element with the same
  pub unique-set : (z : A) (xs : List A) (k : ℕ) (y : A) → f y ≡ f (get_or xs k z) → unique (λ x y. alike (f x) (f y)) xs ≡ true
      → unique (λ x y. alike (f x) (f y)) (set xs k y) ≡ true
  unique-set z xs k y e u = unique-map (set xs k y) ∙ (ap (unique alike) (map-set_same f xs k y z e) ∙ (sym (unique-map xs) ∙ u))
