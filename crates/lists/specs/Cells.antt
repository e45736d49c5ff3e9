-- Lists by their cells: `tab n f` has n of them, cell i being f i.
-- Assumes nothing.
use Rattle.std.specs.Prelude.{◌≡◌, Bool, true, false, ◌&&◌, List, [], ◌∷◌, ◌++◌, leb, ltb, length, get_or, take, replicate}
use Rattle.std.proofs.Math.Path.{refl, ap}
use Rattle.std.proofs.Common.{◌∙◌, leb-true, leb-false, ltb-true, ltb-false}
use Prim.Native.Nat.{ℕ, zero, suc, ◌+◌, ◌-◌, ◌≤◌, ◌<◌}
use native.Mathlib.Omega.{arith}
use Rattle.lists.specs.Equal.{Is, is_t, is_f, is}

-- is j one of the n places from a position on?
abbrev pub inside : (position n j : ℕ) → Bool
inside position n j = leb position j && ltb j (position + n)

-- a number against a range
pub data Where (p n j : ℕ) : Type 0 where
  low : j < p → inside p n j ≡ false → Where p n j
  mid : p ≤ j → j < p + n → inside p n j ≡ true → Where p n j
  high : p ≤ j → p + n ≤ j → inside p n j ≡ false → Where p n j

pub range : (p n j : ℕ) → Where p n j
range p n j = go (is (leb p j)) (is (ltb j (p + n)))
  where
    go : Is (leb p j) → Is (ltb j (p + n)) → Where p n j
    go (is_t a) (is_t b) = mid (leb-true p j a) (ltb-true j (p + n) b) (rw (a, b))
    go (is_t a) (is_f b) = high (leb-true p j a) (ltb-false j (p + n) b) (rw (a, b))
    go (is_f a) b = low (leb-false p j a) (rw a)

unfoldable pub tab : {A : Type 0} → ℕ → (ℕ → A) → List A
tab zero f = []
tab (suc n) f = f 0 ∷ tab n (λ i. f (suc i))

module _ {A : Type 0} where
  pub length-tab : (n : ℕ) (f : ℕ → A) → length (tab n f) ≡ n
  unfolding tab
  length-tab zero f = refl
  length-tab (suc n) f = ap suc (length-tab n (λ i. f (suc i)))

  pub get_or-tab : (n : ℕ) (f : ℕ → A) (i : ℕ) (z : A) → i < n → get_or (tab n f) i z ≡ f i
  unfolding tab
  get_or-tab zero f i z h = absurd (omega arith)
  get_or-tab (suc n) f zero z h = refl
  get_or-tab (suc n) f (suc i) z h = get_or-tab n (λ i. f (suc i)) i z (omega arith)

  pub tab_cong : (n : ℕ) (f g : ℕ → A) → ((i : ℕ) → i < n → f i ≡ g i) → tab n f ≡ tab n g
  unfolding tab
  tab_cong zero f g h = refl
  tab_cong (suc n) f g h = λ k. h 0 (omega arith) k ∷ tab_cong n (λ i. f (suc i)) (λ i. g (suc i)) (λ i l. h (suc i) (omega arith)) k

  pub tab_snoc : (n : ℕ) (f : ℕ → A) → tab (suc n) f ≡ tab n f ++ (f n ∷ [])
  unfolding tab
  tab_snoc zero f = refl
  tab_snoc (suc n) f = ap (λ l. f 0 ∷ l) (tab_snoc n (λ i. f (suc i)))

  pub tab-take : (n m : ℕ) (f : ℕ → A) → n ≤ m → take n (tab m f) ≡ tab n f
  unfolding tab
  tab-take zero m f h = refl
  tab-take (suc n) zero f h = absurd (omega arith)
  tab-take (suc n) (suc m) f h = ap (λ l. f 0 ∷ l) (tab-take n m (λ i. f (suc i)) (omega arith))

  -- the cells from a to below i, and one more
  pub tab-more : (f : ℕ → A) (a i : ℕ) → a ≤ i → tab (i - a) (λ j. f (a + j)) ++ (f i ∷ []) ≡ tab (suc i - a) (λ j. f (a + j))
  tab-more f a i h =
      let e : suc i - a ≡ suc (i - a) = omega arith in
      let e₂ : a + (i - a) ≡ i = omega arith in
      rw (e, tab_snoc (i - a) (λ j. f (a + j)), e₂)

  pub tab_none : (a : ℕ) (f : ℕ → A) → tab (a - a) f ≡ []
  unfolding tab
  tab_none a f = let e : a - a ≡ 0 = omega arith in rw e

  -- cells and the cells after them
  pub tab-append : (n m : ℕ) (f : ℕ → A) → tab n f ++ tab m (λ j. f (n + j)) ≡ tab (n + m) f
  unfolding tab
  tab-append zero m f = let e : 0 + m ≡ m = omega arith in rw e (tab_cong m _ _ (λ i l. ap f (omega arith)))
  tab-append (suc n) m f =
      let e : suc n + m ≡ suc (n + m) = omega arith in
      rw e (ap (λ l. f 0 ∷ l) (ap (λ l. tab n (λ i. f (suc i)) ++ l) (tab_cong m _ _ (λ i h. ap f (omega arith))) ∙ tab-append n m (λ i. f (suc i))))

-- an array of zeros
pub zeros : (n k : ℕ) → ◌≡◌ {A = ℕ} (get_or (replicate n 0) k 0) 0
zeros zero k = refl
zeros (suc n) zero = refl
zeros (suc n) (suc k) = zeros n k
