-- Laws of specs/Parts.antt.
-- Assumes nothing.
use Rattle.std.specs.Prelude.{◌≡◌, refl, Bool, true, false, ◌||◌, not, List, [], ◌∷◌, ℕ, zero, suc, ◌+◌, ◌-◌, ◌≤◌, ◌<◌, eqb, length, get_or, take, drop}
use Rattle.std.proofs.Common.{ap, sym, ◌∙◌, arith, length-drop, get_or-drop, drop-drop, eq-eqb, ne_eqb}
use Rattle.lists.specs.Pick.{pick_true, pick-false, pick_ind}
use Rattle.lists.specs.Equal.{or_snd}
use Rattle.lists.specs.Search.{every, place, place-first, place-passes}
use Rattle.filesystem.specs.Paths.{Path, slash, onto, split}
use Rattle.lists.specs.Scans.{every-before}
use Rattle.paths.specs.Parts.{components_of, is_end, is_slash}

pub or_comm : (a b : Bool) → (a || b) ≡ (b || a)
or_comm true true = refl
or_comm true false = refl
or_comm false true = refl
or_comm false false = refl

pub or_assoc : (a b c : Bool) → ((a || b) || c) ≡ (a || (b || c))
or_assoc true b c = refl
or_assoc false b c = refl

pub components_none : (s : List ℕ) → length s < 2 → components_of s ≡ []
unfolding components_of
components_none [] h = refl
components_none (b ∷ []) h = refl
components_none (b ∷ x ∷ s) h = absurd (omega arith)

pub components_split : (s : List ℕ) → 2 ≤ length s → components_of s ≡ split (drop 1 s)
unfolding components_of
components_split [] h = absurd (omega arith)
components_split (b ∷ []) h = absurd (omega arith)
components_split (b ∷ x ∷ s) h = refl

-- there is a part
pub data Some : Path → Type 0 where
  some : {c : List ℕ} {cs : Path} → Some (c ∷ cs)

some_onto : (b : ℕ) (cs : Path) → Some (onto b cs)
unfolding onto
some_onto b [] = some
some_onto b (c ∷ cs) = some

pub split_some : (s : List ℕ) → Some (split s)
unfolding split
split_some [] = some
split_some (b ∷ s) = pick_ind Some (eqb b slash) (λ e. some) (λ e. some_onto b (split s))

-- a part that ends at a slash, and what is behind that
pub split-slash : (k : ℕ) (s : List ℕ) → ((i : ℕ) → i < k → is_slash (get_or s i 0) ≡ false) → k < length s
    → is_slash (get_or s k 0) ≡ true
    → split s ≡ take k s ∷ split (drop (suc k) s)
unfolding split onto
split-slash k [] before h e = absurd (omega arith)
split-slash zero (b ∷ s) before h e = pick_true _ _ _ e
split-slash (suc k) (b ∷ s) before h e =
    pick-false _ _ _ (before 0 (omega arith))
    ∙ ap (onto b) (split-slash k s (λ i l. before (suc i) (omega arith)) (omega arith) e)

-- the last part
pub split-last : (s : List ℕ) → ((i : ℕ) → i < length s → is_slash (get_or s i 0) ≡ false) → split s ≡ s ∷ []
unfolding split onto
split-last [] before = refl
split-last (b ∷ s) before = pick-false _ _ _ (before 0 (omega arith))
    ∙ ap (onto b) (split-last s (λ i l. before (suc i) (omega arith)))

-- what ends a part
pub end-slash : (b : ℕ) → b ≡ slash → is_end b ≡ true
end-slash b e = rw (eq-eqb b slash e, or_comm (eqb b 0) true)

pub end-zero : (b : ℕ) → b ≡ 0 → is_end b ≡ true
end-zero b e = rw (eq-eqb b 0 e)

pub end_neither : (b : ℕ) → (b ≡ slash → ⊥) → (b ≡ 0 → ⊥) → is_end b ≡ false
end_neither b s z = rw (ne_eqb b slash s, ne_eqb b 0 z)

-- a byte that ends a part and is not 0 is a slash
pub end-other : (b : ℕ) → is_end b ≡ true → (b ≡ 0 → ⊥) → is_slash b ≡ true
end-other b e z = rw (ne_eqb b 0 z) at e

-- a byte that ends no part is no slash
pub end_none : (b : ℕ) → is_end b ≡ false → is_slash b ≡ false
end_none b e = or_snd (eqb b 0) _ e

-- Bytes from `at` on, searched for what a slash passes: the part that ends at `end`.
module _ (f : ℕ → Bool) (sees : (b : ℕ) → f b ≡ false → is_slash b ≡ false) (s : List ℕ) (at end : ℕ)
    (reach : end ≡ at + place f (drop at s)) where
  no_slash : (i : ℕ) → i < end - at → is_slash (get_or (drop at s) i 0) ≡ false
  no_slash i h = sees (get_or (drop at s) i 0) (place-first f (drop at s) 0 i (omega arith))

  pub before-end : every (λ b. not (f b)) (take (end - at) (drop at s)) ≡ true
  before-end =
      let e : end - at ≡ place f (drop at s) = omega arith in
      ap (λ (k : ℕ). every (λ b. not (f b)) (take k (drop at s))) e ∙ every-before f (drop at s)

  module _ (more : end < length s) where
    end_byte : get_or (drop at s) (end - at) 0 ≡ get_or s end 0
    end_byte = let e : at + (end - at) ≡ end = omega arith in get_or-drop at s (end - at) 0 ∙ ap (λ (k : ℕ). get_or s k 0) e

    pub end-passes : f (get_or s end 0) ≡ true
    end-passes =
        let l : place f (drop at s) < length (drop at s) = omega (arith, length-drop at s) in
        let e : end - at ≡ place f (drop at s) = omega arith in
        ap f (sym end_byte) ∙ ap (λ (k : ℕ). f (get_or (drop at s) k 0)) e ∙ place-passes f (drop at s) 0 l

    pub part-slash : is_slash (get_or s end 0) ≡ true → split (drop at s) ≡ take (end - at) (drop at s)
        ∷ split (drop (end + 1) s)
    part-slash p =
        let n : at + suc (end - at) ≡ end + 1 = omega arith in
        let r : drop (suc (end - at)) (drop at s) ≡ drop (end + 1) s = drop-drop (suc (end - at)) at s
        ∙ ap (λ (k : ℕ). drop k s) n in
        split-slash (end - at) (drop at s) no_slash (omega (arith, length-drop at s)) (ap is_slash end_byte ∙ p)
        ∙ ap (λ (q : List ℕ). take (end - at) (drop at s) ∷ split q) r

  pub part-last : length s ≤ end → split (drop at s) ≡ drop at s ∷ []
  part-last h = split-last (drop at s) (λ i l. no_slash i (omega (arith, length-drop at s)))
