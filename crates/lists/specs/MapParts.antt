-- Maps over parts and overwrites. Assumes nothing.
use Rattle.std.specs.Prelude.{ℕ, ◌+◌, ◌≡◌, refl, take}
use Rattle.std.proofs.Math.Path.{ap}
use Rattle.std.proofs.Common.{◌∙◌}
use mathlib.Core.List.{List, [], ◌∷◌, ◌++◌, map, map-append}
use Rattle.std.proofs.Math.ListN.{length, drop, length-map}
use Rattle.lists.specs.Maps.{map-take, map-drop}
use Rattle.lists.specs.Parts.{part, overwrite}

module _ {A B : Type 0} (f : A → B) where
  pub map-part : (at n : ℕ) (l : List A) → map f (part at n l) ≡ part at n (map f l)
  unfolding part
  map-part at n l = map-take f n (drop at l) ∙ ap (take n) (map-drop f at l)

  pub map_overwrite : (l : List A) (at : ℕ) (x : List A) → map f (overwrite l at x) ≡ overwrite (map f l) at (map f x)
  unfolding overwrite
  map_overwrite l at x =
      rw (map-append f (take at l) (x ++ drop (at + length x) l), map-append f x (drop (at + length x) l), map-take f at l, map-drop f (at + length x) l, length-map x f)

pub map_same : {A : Type 0} (l : List A) → map (λ x. x) l ≡ l
map_same [] = refl
map_same (x ∷ l) = ap (λ r. x ∷ r) (map_same l)
