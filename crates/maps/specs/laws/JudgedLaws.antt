-- A reply's stop reason: its length, then all that is wrong with a map, in one number.
-- Assumes nothing.
use Rattle.std.specs.Prelude.{◌≡◌, refl, Bool, true, false, ◌||◌, not, List, [], ◌∷◌, ℕ, ◌+◌, ◌%◌, eqb, ltb, length, drop}
use Rattle.std.proofs.Common.{sym, ◌∙◌, eq-eqb, ne_eqb}
use Rattle.lists.specs.Pick.{pick, pick_true, pick-false}
use Rattle.lists.specs.Checks.{decide}
use Rattle.lists.specs.Search.{any, every}
use Rattle.filesystem.specs.MemoryMaps.{Map, MAP_UNIT}
use Rattle.rules.specs.MapRules.{ADDRESSES, overlaps, address_in, map_in, map_faults}
use Rattle.maps.specs.Judged.{is_misplaced, map_reason}

in_one : (l z u e o s : Bool)
    → decide (λ i. i) ((1, not l) ∷ (8, z) ∷ (8, not u) ∷ (8, e) ∷ (8, o) ∷ (8, not s) ∷ []) 0
    ≡ pick l (pick (z || (not u || e)) 8 (pick o 8 (pick s 0 8))) 1
unfolding decide pick
in_one false z u e o s = refl
in_one true true u e o s = refl
in_one true false false e o s = refl
in_one true false true true o s = refl
in_one true false true false true s = refl
in_one true false true false false true = refl
in_one true false true false false false = refl

module _ (ms : List Map) (n : ℕ) (r : List ℕ) where
  abbrev overlapping : Bool
  overlapping = any (overlaps (map_in n r)) ms

  abbrev zero-bytes : Bool
  zero-bytes = every (eqb 0) (drop 8 r)

  reason_is : map_reason ms n r
      ≡ pick (eqb (length r) (8 + n)) (pick (is_misplaced (address_in r) n) 8 (pick overlapping 8 (pick zero-bytes 0 8))) 1
  unfolding map_reason map_faults is_misplaced
  reason_is =
      in_one (eqb (length r) (8 + n)) (eqb (address_in r) 0) (eqb (address_in r % MAP_UNIT) 0)
      (ltb ADDRESSES (address_in r + n)) overlapping zero-bytes

  pub reason_length : (length r ≡ 8 + n → ⊥) → 1 ≡ map_reason ms n r
  reason_length h = sym (reason_is ∙ pick-false _ _ _ (ne_eqb _ _ h))

  module _ (long : length r ≡ 8 + n) where
    reason_long : map_reason ms n r ≡ pick (is_misplaced (address_in r) n) 8 (pick overlapping 8 (pick zero-bytes 0 8))
    reason_long = reason_is ∙ pick_true _ _ _ (eq-eqb _ _ long)

    pub reason_address : is_misplaced (address_in r) n ≡ true → 8 ≡ map_reason ms n r
    reason_address h = sym (reason_long ∙ pick_true _ _ _ h)

    module _ (placed : is_misplaced (address_in r) n ≡ false) where
      pub reason_overlap : overlapping ≡ true → 8 ≡ map_reason ms n r
      reason_overlap h = sym (reason_long ∙ pick-false _ _ _ placed ∙ pick_true _ _ _ h)

      pub reason_dirty : overlapping ≡ false → zero-bytes ≡ false → 8 ≡ map_reason ms n r
      reason_dirty h d = sym (reason_long ∙ pick-false _ _ _ placed ∙ pick-false _ _ _ h ∙ pick-false _ _ _ d)

      pub reason_none : overlapping ≡ false → zero-bytes ≡ true → 0 ≡ map_reason ms n r
      reason_none h d = sym (reason_long ∙ pick-false _ _ _ placed ∙ pick-false _ _ _ h ∙ pick_true _ _ _ d)
