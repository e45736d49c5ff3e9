-- A reply's stop reason, check after check.
-- Assumes nothing.
use Rattle.std.specs.Prelude.{◌≡◌, Bool, true, ◌&&◌, ◌||◌, List, [], ◌∷◌, ℕ, eqb, ℤ, pos, negsuc, length}
use Rattle.std.proofs.Math.Path.{refl, sym}
use Rattle.std.proofs.Common.{ap, ◌∙◌, arith, take_all, eq-eqb, ne_eqb}
use Rattle.std.proofs.Math.Bool.{false, not}
use Rattle.digest.specs.Sha256.{sha256}
use Rattle.lists.specs.Pick.{pick, pick_true, pick-false}
use Rattle.lists.specs.Checks.{decide, check_last, check_passes, check_stops}
use Rattle.lists.specs.Equal.{equal, Is, is_t, is_f, is}
use Rattle.lists.specs.LittleEndian.{decode}
use Rattle.lists.specs.Parts.{part}
use Rattle.lists.specs.Signed.{signed}
use Rattle.filesystem.specs.Tables.{PAGE_BYTES, Tables}
use Rattle.rules.specs.Pages.{Change}
use Rattle.rules.specs.Requests.{asked, closing, removing, changing, storing, cutting}
use Rattle.rules.specs.Rules.{signed_of, is_number, is_full, says_full, reply_checks}
use Rattle.replies.specs.Judged.{reason_for, status_reason, is_negative, status_of, page_reason}

-- a reply of this length is its own part
pub whole_part : (r : List ℕ) (n : ℕ) → length r ≡ n → part 0 n r ≡ r
unfolding part
whole_part r n h = take_all n r (omega arith)

pub or_left : (a b : Bool) → a ≡ true → (a || b) ≡ true
or_left a b e = rw e

pub or_right : (a b : Bool) → b ≡ true → (a || b) ≡ true
or_right true b e = refl
or_right false b e = e

pub and-false : (a b : Bool) → b ≡ false → (a && b) ≡ false
and-false true b e = e
and-false false b e = refl

-- A status.
module _ (t : Tables) (r : List ℕ) where
  pub closing_reason : (o : ℕ) → reason_for t r (asked (closing o)) ≡ status_reason r 0
  unfolding reason_for status_reason reply_checks
  closing_reason o = refl

  pub removing_reason : (k : ℕ) → reason_for t r (asked (removing k)) ≡ status_reason r 0
  unfolding reason_for status_reason reply_checks
  removing_reason k = refl

  pub changing_reason : (k mode : ℕ) → reason_for t r (asked (changing k mode)) ≡ status_reason r 0
  unfolding reason_for status_reason reply_checks
  changing_reason k mode = refl

  pub storing_reason : (k o : ℕ) (q : Change) (i : ℕ) → reason_for t r (storing k o q i) ≡ status_reason r PAGE_BYTES
  unfolding reason_for status_reason reply_checks
  storing_reason k o q i = refl

  pub cutting_reason : (k o : ℕ) (q : Change) → reason_for t r (cutting k o q) ≡ status_reason r 0
  unfolding reason_for status_reason reply_checks
  cutting_reason k o q = refl

number_yes : (n : ℕ) (z : ℤ) → z ≡ pos n → is_number n z ≡ true
unfolding is_number
number_yes n z e = rw e (eq-eqb n n refl)

number-no : (n : ℕ) (z : ℤ) → (z ≡ pos n → ⊥) → is_number n z ≡ false
unfolding is_number
number-no n (pos m) h = ne_eqb m n (λ e. h (ap pos e))
number-no n (negsuc m) h = refl

negative_yes : (n : ℕ) (z : ℤ) → z ≡ negsuc n → is_negative n z ≡ true
unfolding is_negative
negative_yes n z e = rw e (eq-eqb n n refl)

negative_no : (n : ℕ) (z : ℤ) → (z ≡ negsuc n → ⊥) → is_negative n z ≡ false
unfolding is_negative
negative_no n (pos m) h = refl
negative_no n (negsuc m) h = ne_eqb m n (λ e. h (ap negsuc e))

module _ (r : List ℕ) where
  pub status-length : (z : ℤ) → (length r ≡ 4 → ⊥) → status_of r z ≡ 1
  unfolding status_reason
  status-length (pos n) h = check_stops (λ i. i) 1 _ _ _ (ap not (ne_eqb _ _ h))
  status-length (negsuc n) h = check_stops (λ i. i) 1 _ _ _ (ap not (ne_eqb _ _ h))

  module _ (s : ℤ) (read : s ≡ signed 4 (decode (part 0 4 r))) (long : length r ≡ 4) where
    status-read : signed_of r ≡ s
    status-read = ap (λ (l : List ℕ). signed 4 (decode l)) (sym (whole_part r 4 long)) ∙ sym read

    passed : (f : ℤ → Bool) → decide (λ i. i) ((1, not (eqb (length r) 4)) ∷ (2, not (f (signed_of r))) ∷ []) 0
        ≡ decide (λ i. i) ((2, not (f s)) ∷ []) 0
    passed f =
        check_passes (λ i. i) 1 _ _ _ (ap not (eq-eqb _ _ long))
        ∙ ap (λ (z : ℤ). decide (λ i. i) ((2, not (f z)) ∷ []) 0) status-read

    pub status-other : (z : ℤ) → (s ≡ z → ⊥) → status_of r z ≡ 2
    unfolding status_reason
    status-other (pos n) h = passed (is_number n) ∙ check_stops (λ i. i) 2 _ _ _ (ap not (number-no n s h))
    status-other (negsuc n) h = passed (is_negative n) ∙ check_stops (λ i. i) 2 _ _ _ (ap not (negative_no n s h))

    pub status_same : (z : ℤ) → s ≡ z → status_of r z ≡ 0
    unfolding status_reason
    status_same (pos n) e = passed (is_number n) ∙ check_last (λ i. i) 2 _ _ (ap not (number_yes n s e))
    status_same (negsuc n) e = passed (is_negative n) ∙ check_last (λ i. i) 2 _ _ (ap not (negative_yes n s e))

  full_same : (z : ℤ) → is_full z ≡ is_negative 27 z
  unfolding is_full is_negative
  full_same (pos n) = refl
  full_same (negsuc n) = refl

  -- -28, where nothing speaks against it
  pub full-status : says_full 4 r ≡ eqb (status_of r (negsuc 27)) 0
  unfolding says_full decide pick
  full-status = rw (full_same (signed_of r)) (go (is (eqb (length r) 4)) (is (is_negative 27 (signed_of r))))
    where
      go : Is (eqb (length r) 4) → Is (is_negative 27 (signed_of r))
          → (eqb (length r) 4 && is_negative 27 (signed_of r)) ≡ eqb (status_of r (negsuc 27)) 0
      go (is_f e) _ = rw e
      go (is_t e) (is_f f) = rw (e, f)
      go (is_t e) (is_t f) = rw (e, f)

  -- a right status does not say it
  pub right_not_full : (n : ℕ) → 0 ≡ status_reason r n → (b : Bool) → (b && says_full 4 r) ≡ false
  unfolding says_full is_full is_number status_reason decide pick
  right_not_full n h b = and-false b _ (go (is (eqb (length r) 4)) (signed_of r) refl)
    where
      go : Is (eqb (length r) 4) → (z : ℤ) → signed_of r ≡ z → (eqb (length r) 4 && is_full (signed_of r)) ≡ false
      go (is_f e) z f = rw e
      go (is_t e) (pos m) f = rw (e, f)
      go (is_t e) (negsuc m) f = absurd (let w : 0 ≡ 2 = h ∙ rw (e, f) in omega arith)

-- a page's stop reason, test by test
module _ (d x : List ℕ) where
  pub page_short : (length x ≡ PAGE_BYTES → ⊥) → 1 ≡ page_reason d x
  unfolding page_reason
  page_short h = sym (pick-false _ _ _ (ne_eqb (length x) PAGE_BYTES h))

  pub page_right : length x ≡ PAGE_BYTES → equal (sha256 x) d ≡ true → 0 ≡ page_reason d x
  unfolding page_reason
  page_right h e = sym (pick_true _ _ _ (eq-eqb (length x) PAGE_BYTES h) ∙ pick_true _ _ _ e)

  pub page_wrong : length x ≡ PAGE_BYTES → equal (sha256 x) d ≡ false → 5 ≡ page_reason d x
  unfolding page_reason
  page_wrong h e = sym (pick_true _ _ _ (eq-eqb (length x) PAGE_BYTES h) ∙ pick-false _ _ _ e)
