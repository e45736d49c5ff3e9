-- Laws of specs/Monte.antt.
-- Assumes nothing.
use Rattle.std.specs.Prelude.{◌≡◌, ℕ, suc, ◌+◌, List, ◌++◌, length, refl}
use Rattle.std.proofs.Common.{◌∙◌, append_assoc, arith, length-append}
use Rattle.lists.specs.Parts.{overwrite}
use Rattle.lists.specs.PartLaws.{overwrite_next, overwrite_all}
use Rattle.digest.specs.Sha256.{sha256}
use Rattle.vectors.specs.Monte.{MD}

pub seeds : (s : List ℕ) → (s ≡ MD s 0) × (s ≡ MD s (0 + 1)) × (s ≡ MD s (0 + 2))
unfolding MD
seeds s = (refl, refl, refl)

pub next : (s : List ℕ) (i : ℕ) → sha256 (MD s i ++ (MD s (i + 1) ++ MD s (i + 2))) ≡ MD s (i + 1 + 2)
unfolding MD
next s i =
    let e : i + 1 ≡ suc i = omega arith in
    let f : i + 2 ≡ suc (suc i) = omega arith in
    let g : suc i + 2 ≡ suc (suc (suc i)) = omega arith in
    rw (e, f, g)

-- three lists put one behind the other fill a buffer
pub filled : (l a b c : List ℕ) → length l ≡ 96 → length a ≡ 32 → length b ≡ 32 → length c ≡ 32
    → overwrite (overwrite (overwrite l 0 a) 32 b) 64 c ≡ a ++ (b ++ c)
filled l a b c n x y z =
    let ab : length (a ++ b) ≡ 64 = length-append a b ∙ omega arith in
    let abc : length ((a ++ b) ++ c) ≡ 96 = length-append (a ++ b) c ∙ omega arith in
    let two = overwrite_next l 0 a b 32 (omega arith) (omega arith) in
    let three = overwrite_next l 0 (a ++ b) c 64 (omega arith) (omega arith) in
    rw (two, three)
    (overwrite_all l ((a ++ b) ++ c) (omega arith) ∙ append_assoc a b c)
