-- Hexadecimal digits, one by one.
-- Assumes nothing.
use Rattle.std.specs.Prelude.{◌≡◌, List, ℕ, ◌+◌, ◌*◌, ◌/◌, ◌%◌, ◌≤◌, ◌<◌, ◌-◌, length, get_or, Some, None, Ok, Err}
use borrow.Author.Tests.{lt-ltb, le-ltb, eq-eqb, ne_eqb}
use Rattle.lists.specs.Pick.{pick}
use Rattle.lists.specs.Cells.{length-tab, get_or-tab}
use Rattle.lists.specs.Search.{place}
use Rattle.text.specs.declared.hex.DecodeError.TheVariants.{BadDigit, Odd, TooLong}
use Rattle.text.specs.Hex.{bytes_of, decode_of, digit_of, half_of, hex_of, is_bad, pair_of, value_of}
use Rattle.std.proofs.Common.{ap, ◌∙◌, arith}

-- what a byte's number is, by its range
module _ (c : ℕ) where
  pub value_below : c < 48 → None ≡ value_of c
  unfolding value_of pick
  value_below h = rw (lt-ltb _ _ h)

  pub value_decimal : 48 ≤ c → c < 58 → Some (c - 48) ≡ value_of c
  unfolding value_of pick
  value_decimal l h = rw (le-ltb _ _ l, lt-ltb _ _ h)

  pub value_between : 58 ≤ c → c < 97 → None ≡ value_of c
  unfolding value_of pick
  value_between l h = let m : 48 ≤ c = omega arith in rw (le-ltb _ _ m, le-ltb _ _ l, lt-ltb _ _ h)

  pub value_letter : 97 ≤ c → c < 103 → Some (c - 97 + 10) ≡ value_of c
  unfolding value_of pick
  value_letter l h =
      let m : 48 ≤ c = omega arith in
      let n : 58 ≤ c = omega arith in
      rw (le-ltb _ _ m, le-ltb _ _ n, le-ltb _ _ l, lt-ltb _ _ h) (ap Some (omega arith))

  pub value_above : 103 ≤ c → None ≡ value_of c
  unfolding value_of pick
  value_above l =
      let m : 48 ≤ c = omega arith in
      let n : 58 ≤ c = omega arith in
      let o : 97 ≤ c = omega arith in
      rw (le-ltb _ _ m, le-ltb _ _ n, le-ltb _ _ o, le-ltb _ _ l)

pub length-hex_of : (s : List ℕ) → length (hex_of s) ≡ 2 * length s
unfolding hex_of
length-hex_of s = length-tab (2 * length s) (λ i. digit_of (half_of (get_or s (i / 2) 0) (i % 2)))

pub hex_of-at : (s : List ℕ) (i : ℕ) → i < 2 * length s
    → get_or (hex_of s) i 0 ≡ digit_of (half_of (get_or s (i / 2) 0) (i % 2))
unfolding hex_of
hex_of-at s i h = get_or-tab (2 * length s) (λ i. digit_of (half_of (get_or s (i / 2) 0) (i % 2))) i 0 h

-- the two digits of byte i
module _ (s : List ℕ) (i : ℕ) (inside : i < length s) where
  pub hex_first : get_or (hex_of s) (2 * i) 0 ≡ digit_of (get_or s i 0 / 16)
  unfolding half_of pick
  hex_first =
      let e : 2 * i / 2 ≡ i = omega arith in
      let f : 2 * i % 2 ≡ 0 = omega arith in
      hex_of-at s (2 * i) (omega arith) ∙ rw (e, f)

  pub hex_second : get_or (hex_of s) (2 * i + 1) 0 ≡ digit_of (get_or s i 0 % 16)
  unfolding half_of pick
  hex_second =
      let e : (2 * i + 1) / 2 ≡ i = omega arith in
      let f : (2 * i + 1) % 2 ≡ 1 = omega arith in
      hex_of-at s (2 * i + 1) (omega arith) ∙ rw (e, f)

pub length-bytes_of : (s : List ℕ) → length (bytes_of s) ≡ length s / 2
unfolding bytes_of
length-bytes_of s = length-tab (length s / 2) (λ k. pair_of (get_or s (2 * k) 0) (get_or s (2 * k + 1) 0))

pub bytes_of-at : (s : List ℕ) (k : ℕ) → k < length s / 2 → get_or (bytes_of s) k 0 ≡ pair_of (get_or s (2 * k) 0)
    (get_or s (2 * k + 1) 0)
unfolding bytes_of
bytes_of-at s k h = get_or-tab (length s / 2) (λ k. pair_of (get_or s (2 * k) 0) (get_or s (2 * k + 1) 0)) k 0 h

-- what decoding answers, case by case
module _ (s : List ℕ) (room : ℕ) where
  pub decode_bad : place is_bad s < length s → Err (BadDigit (place is_bad s)) ≡ decode_of s room
  unfolding decode_of pick
  decode_bad h = rw (lt-ltb _ _ h)

  pub decode_odd : length s ≤ place is_bad s → length s % 2 ≡ 1 → Err Odd ≡ decode_of s room
  unfolding decode_of pick
  decode_odd h o = rw (le-ltb _ _ h, eq-eqb _ _ o)

  pub decode-long : length s ≤ place is_bad s → (length s % 2 ≡ 1 → ⊥) → room < length s / 2
      → Err TooLong ≡ decode_of s room
  unfolding decode_of pick
  decode-long h e l = rw (le-ltb _ _ h, ne_eqb _ _ e, lt-ltb _ _ l)

  pub decode-bytes : length s ≤ place is_bad s → (length s % 2 ≡ 1 → ⊥) → length s / 2 ≤ room
      → Ok (length s / 2) ≡ decode_of s room
  unfolding decode_of pick
  decode-bytes h e l = rw (le-ltb _ _ h, ne_eqb _ _ e, le-ltb _ _ l)
