-- A new descriptor's stop reason, check after check.
-- Assumes nothing.
use Rattle.std.specs.Prelude.{◌≡◌, refl, true, false, ◌||◌, List, [], ◌∷◌, ℕ, ◌*◌, ◌^◌, ◌≤◌, ◌<◌, T, ltb, ℤ, pos, negsuc, nat_abs, length}
use Rattle.std.proofs.Math.Path.{ap}
use Rattle.std.proofs.Common.{sym, ◌∙◌, true≢false, arith, eq-eqb, ne_eqb, ltb-true, lt-ltb, le-ltb, leb-true, leb-false, le-leb}
use Rattle.std.proofs.Math.Bool.{not}
use Rattle.std.specs.Int.Signed.{lt_z, le_z, non_neg}
use Rattle.std.proofs.lemmas.Bool.{lt-leb}
use Rattle.lists.specs.Pick.{pick_ind}
use Rattle.lists.specs.Checks.{decide, check_last, check_passes, check_stops}
use Rattle.lists.specs.Equal.{or_both}
use Rattle.lists.specs.LittleEndian.{decode}
use Rattle.lists.specs.Parts.{part}
use Rattle.lists.specs.Signed.{signed}
use Rattle.filesystem.specs.Tables.{DESCRIPTORS, Tables, present, find_descriptor}
use Rattle.rules.specs.Requests.{asked, opening}
use Rattle.rules.specs.Rules.{signed_of, is_descriptor, reply_checks}
use Rattle.replies.specs.Judged.{reason_for}
use Rattle.replies.specs.laws.JudgedLaws.{whole_part, or_left, or_right}

is_negative_lem : (z : ℤ) → lt_z z (pos 0) ≡ true → is_descriptor z ≡ false
unfolding is_descriptor
is_negative_lem (pos m) e = let l = ltb-true m 0 e in absurd (omega arith)
is_negative_lem (negsuc m) e = refl

is_high : (z : ℤ) → le_z (pos DESCRIPTORS) z ≡ true → is_descriptor z ≡ false
unfolding is_descriptor
is_high (pos m) e = le-ltb m DESCRIPTORS (leb-true DESCRIPTORS m e)
is_high (negsuc m) e = refl

in_range : (z : ℤ) → lt_z z (pos 0) ≡ false → le_z (pos DESCRIPTORS) z ≡ false → is_descriptor z ≡ true
unfolding is_descriptor
in_range (pos m) e h = lt-ltb m DESCRIPTORS (leb-false DESCRIPTORS m h)
in_range (negsuc m) e h = absurd (true≢false e)

-- as an unsigned number it is the same
pub not_negative : (z : ℤ) → lt_z z (pos 0) ≡ false → T (non_neg z)
not_negative (pos m) e = tt
not_negative (negsuc m) e = absurd (true≢false e)

pub is_low : (z : ℤ) → lt_z z (pos 0) ≡ false → le_z (pos DESCRIPTORS) z ≡ false → nat_abs z < DESCRIPTORS
is_low (pos m) e h = leb-false DESCRIPTORS m h
is_low (negsuc m) e h = absurd (true≢false e)

unsigned : (x : ℕ) → lt_z (signed 4 x) (pos 0) ≡ false → nat_abs (signed 4 x) ≡ x
unfolding signed
unsigned x = pick_ind (λ z. lt_z z (pos 0) ≡ false → nat_abs z ≡ x) (ltb (2 * x) (256 ^ 4)) (λ _ _. refl)
    (λ _ e. absurd (true≢false e))

module _ (t : Tables) (r : List ℕ) (k rights : ℕ) where
  pub descriptor_length : (length r ≡ 4 → ⊥) → reason_for t r (asked (opening k rights)) ≡ 1
  unfolding reason_for reply_checks
  descriptor_length h = check_stops (λ i. i) 1 _ _ _ (ap not (ne_eqb _ _ h))

  module _ (z : ℤ) (read : z ≡ signed 4 (decode (part 0 4 r))) (long : length r ≡ 4) where
    descriptor_read : signed_of r ≡ z
    descriptor_read = ap (λ (l : List ℕ). signed 4 (decode l)) (sym (whole_part r 4 long)) ∙ sym read

    descriptor_passed : reason_for t r (asked (opening k rights))
        ≡ decide (λ i. i) ((4, not (is_descriptor z) || present t.opens (find_descriptor t.opens (decode r))) ∷ [])
        0
    unfolding reason_for reply_checks
    descriptor_passed =
        check_passes (λ i. i) 1 _ _ _ (ap not (eq-eqb _ _ long))
        ∙ ap (λ (y : ℤ). decide (λ i. i)
        ((4, not (is_descriptor y) || present t.opens (find_descriptor t.opens (decode r))) ∷ []) 0)
        descriptor_read

    pub descriptor_negative : lt_z z (pos 0) ≡ true → reason_for t r (asked (opening k rights)) ≡ 4
    descriptor_negative e = descriptor_passed ∙ check_stops (λ i. i) 4 _ _ _ (or_left _ _ (ap not (is_negative_lem z e)))

    pub descriptor_high : le_z (pos DESCRIPTORS) z ≡ true → reason_for t r (asked (opening k rights)) ≡ 4
    descriptor_high e = descriptor_passed ∙ check_stops (λ i. i) 4 _ _ _ (or_left _ _ (ap not (is_high z e)))

    module _ (not-below : lt_z z (pos 0) ≡ false) (i : ℕ) (found : i ≡ find_descriptor t.opens (nat_abs z)) where
      found_read : i ≡ find_descriptor t.opens (decode r)
      found_read =
          found
          ∙ ap (find_descriptor t.opens)
          (ap nat_abs (sym descriptor_read) ∙ unsigned (decode r) (ap (λ (y : ℤ). lt_z y (pos 0)) descriptor_read
          ∙ not-below))

      pub descriptor_held : i < length t.opens → reason_for t r (asked (opening k rights)) ≡ 4
      descriptor_held l =
          let e = found_read in
          descriptor_passed
          ∙ check_stops (λ i. i) 4 _ _ _ (or_right (not (is_descriptor z)) _
          (ap not (lt-leb (length t.opens) (find_descriptor t.opens (decode r)) (omega arith))))

      pub descriptor_new : le_z (pos DESCRIPTORS) z ≡ false → length t.opens ≤ i
          → reason_for t r (asked (opening k rights)) ≡ 0
      descriptor_new h l =
          let e = found_read in
          descriptor_passed
          ∙ check_last (λ i. i) 4 _ _
          (or_both (not (is_descriptor z)) _ (ap not (in_range z not-below h))
          (ap not (le-leb (length t.opens) (find_descriptor t.opens (decode r)) (omega arith))))
