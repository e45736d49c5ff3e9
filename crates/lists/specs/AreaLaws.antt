-- A write inside one area changes that area and leaves the others. Over any element and any number of areas; assumes nothing.
use Rattle.std.specs.Prelude.{ℕ, zero, suc, ◌+◌, ◌<◌, ◌≤◌, ◌≡◌, refl, List, [], ◌∷◌, length, get_or, take, set}
use Rattle.std.proofs.Common.{ap₂, arith}
use Rattle.lists.specs.Parts.{overwrite}
use Rattle.lists.specs.PartLaws.{part-before, part-after, part_within}
use Rattle.lists.specs.Areas.{total, areas}

-- area k ends before the end of all
pub area_fits : (ns : List ℕ) (k : ℕ) → k < length ns → total (take k ns) + get_or ns k 0 ≤ total ns
area_fits [] k h = absurd (omega arith)
area_fits (n ∷ ns) zero h = omega arith
area_fits (n ∷ ns) (suc k) h = let e = area_fits ns k (omega arith) in omega arith

module _ {A : Type 0} (l : List A) (at : ℕ) (x : List A) where
  -- areas behind the write stay
  areas_after : (ns : List ℕ) (a : ℕ) → at + length x ≤ a → at + length x ≤ length l → areas a ns (overwrite l at x) ≡ areas a ns l
  areas_after [] a h f = refl
  areas_after (n ∷ ns) a h f = ap₂ {B = List (List A)} {C = List (List A)} (λ p q. p ∷ q) (part-after l at x a n h f) (areas_after ns (a + n) (omega arith) f)

  -- a write at b of area k
  pub areas_overwrite : (ns : List ℕ) (a k b : ℕ) → at ≡ a + total (take k ns) + b → k < length ns → b + length x ≤ get_or ns k 0 → a + total ns ≤ length l
      → areas a ns (overwrite l at x) ≡ set (areas a ns l) k (overwrite (get_or (areas a ns l) k []) b x)
  areas_overwrite [] a k b e h g f = absurd (omega arith)
  areas_overwrite (n ∷ ns) a zero b e h g f =
      ap₂ {B = List (List A)} {C = List (List A)} (λ p q. p ∷ q) (part_within l at x a n b (omega arith) g (omega arith)) (areas_after ns (a + n) (omega arith) (omega arith))
  areas_overwrite (n ∷ ns) a (suc k) b e h g f =
      let t : total (take k ns) + get_or ns k 0 ≤ total ns = area_fits ns k (omega arith) in
      ap₂ {B = List (List A)} {C = List (List A)} (λ p q. p ∷ q) (part-before l at x a n (omega arith) (omega arith)) (areas_overwrite ns (a + n) k b (omega arith) (omega arith) g (omega arith))
