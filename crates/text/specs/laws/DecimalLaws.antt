-- Laws of specs/Decimal.antt.
-- Assumes nothing.
use Rattle.std.specs.Prelude.{◌≡◌, refl, ◌⊎◌, List, [], ◌∷◌, ℕ, ◌+◌, ◌-◌, ◌*◌, ◌≤◌, ◌<◌, length, get_or, drop}
use Rattle.std.specs.Prelude.{None, Some, Bool, true, false}
use Rattle.std.specs.Bool.{MatchBool}
use Rattle.std.proofs.Common.{add-one, arith, inl, inr}
use Rattle.std.proofs.Math.Seq.{drop-cons, drop-length}
use borrow.Author.Tests.{lt-ltb, le-ltb}
use Rattle.lists.specs.Pick.{pick}
use Rattle.text.specs.Decimal.{read_decimal, read_from}

pub read_none : (s : List ℕ) → length s ≡ 0 → read_decimal s ≡ None
unfolding read_decimal
read_none [] h = refl
read_none (c ∷ s) h = absurd (omega arith)

pub read-start : (s : List ℕ) → 0 < length s → read_decimal s ≡ read_from 0 s
unfolding read_decimal
read-start [] h = absurd (omega arith)
read-start (c ∷ s) h = refl

pub read-end : (n : ℕ) (s : List ℕ) (i : ℕ) → i ≡ length s → read_from n (drop i s) ≡ Some n
unfolding read_from
read-end n s i e = rw (e, drop-length s)

module _ (n : ℕ) (s : List ℕ) (i : ℕ) (inside : i < length s) where
  pub read_low : get_or s i 0 < 48 → read_from n (drop i s) ≡ None
  unfolding read_from pick
  read_low h = rw (drop-cons s i 0 inside, lt-ltb _ _ h)

  pub read-high : 48 ≤ get_or s i 0 → 57 < get_or s i 0 → read_from n (drop i s) ≡ None
  unfolding read_from pick
  read-high l h = rw (drop-cons s i 0 inside, le-ltb _ _ l, lt-ltb _ _ h)

  pub read_bad : (get_or s i 0 < 48) ⊎ (57 < get_or s i 0) → read_from n (drop i s) ≡ None
  read_bad (inl l) = read_low l
  read_bad (inr h) = read-high (omega arith) h

  pub read_large : 48 ≤ get_or s i 0 → get_or s i 0 ≤ 57 → 99999999 < n → read_from n (drop i s) ≡ None
  unfolding read_from pick
  read_large l h g = rw (drop-cons s i 0 inside, le-ltb _ _ l, le-ltb _ _ h, lt-ltb _ _ g)

  -- a byte that is no digit, or a digit too many
  pub read_stop : (b : Bool) → MatchBool b ((48 ≤ get_or s i 0) × (get_or s i 0 ≤ 57))
      ((get_or s i 0 < 48) ⊎ (57 < get_or s i 0))
      → (b ≡ false) ⊎ ((b ≡ true) × (99999999 < n)) → read_from n (drop i s) ≡ None
  read_stop true d (inl e) = absurd (cc)
  read_stop true d (inr h) = read_large d.0 d.1 h.1
  read_stop false d h = read_bad d

  pub read_digit : 48 ≤ get_or s i 0 → get_or s i 0 ≤ 57 → n ≤ 99999999
      → read_from n (drop i s) ≡ read_from (10 * n + (get_or s i 0 - 48)) (drop (i + 1) s)
  unfolding read_from pick
  read_digit l h g = rw (add-one, drop-cons s i 0 inside, le-ltb _ _ l, le-ltb _ _ h, le-ltb _ _ g)
