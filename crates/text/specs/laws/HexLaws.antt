-- Digits that were written are read back, and those that were read are those that would be written.
-- Assumes nothing.
use Rattle.std.proofs.Math.Path.{◌≡◌}
use Rattle.std.proofs.Common.{refl, sym, ap, subst, ◌∙◌, arith, ext_get_or, true≢false}
use Rattle.std.specs.Prelude.{false, List, ℕ, ◌+◌, ◌-◌, ◌*◌, ◌/◌, ◌%◌, ◌≤◌, ◌<◌, ltb, eqb, length, get_or}
use Rattle.std.specs.Prelude.{Option, None, Some, is_none, unwrap_or, Result, Ok}
use borrow.Author.Tests.{ltb-true, ltb-false, lt-ltb, le-ltb, eqb-true, eqb-false}
use Rattle.lists.specs.All as all
use Rattle.lists.specs.All.{all-at}
use Rattle.lists.specs.Pick.{pick, pick_ind}
use Rattle.lists.specs.Equal.{Is, is_t, is_f, is}
use Rattle.lists.specs.Search.{place, place-first}
use Rattle.lists.specs.Places.{at_all, place_none}
use Rattle.text.specs.Hex.{digit_of, value_of, half_of, hex_of, pair_of, bytes_of, is_bad, decode_of}
use Rattle.text.specs.laws.HexCases.{length-hex_of}
use Rattle.text.specs.laws.HexCases.{hex_of-at, length-bytes_of, bytes_of-at, decode-bytes}
use Rattle.text.specs.declared.hex.DecodeError.{DecodeError}

value_low : (n : ℕ) → n < 10 → value_of (48 + n) ≡ Some n
unfolding value_of pick
value_low n h = rw (le-ltb (48 + n) 48 (omega arith), lt-ltb (48 + n) 58 (omega arith)) (ap Some (omega arith))

value_high : (n : ℕ) → 10 ≤ n → n < 16 → value_of (87 + n) ≡ Some n
unfolding value_of pick
value_high n h g =
    rw (
      le-ltb (87 + n) 48 (omega arith),
      le-ltb (87 + n) 58 (omega arith),
      le-ltb (87 + n) 97 (omega arith),
      lt-ltb
          (87 + n) 103 (omega arith),
    ) (ap Some (omega arith))

pub value_digit : (n : ℕ) → n < 16 → value_of (digit_of n) ≡ Some n
unfolding digit_of
value_digit n h = pick_ind (λ (d : ℕ). value_of d ≡ Some n) (ltb n 10) (λ e. value_low n (ltb-true n 10 e))
    (λ e. value_high n (ltb-false n 10 e) h)

-- the two halves of a byte
pair_halves : (b : ℕ) → b < 256 → pair_of (digit_of (half_of b 0)) (digit_of (half_of b 1)) ≡ b
unfolding pair_of half_of pick
pair_halves b h = rw (value_digit (b / 16) (omega arith), value_digit (b % 16) (omega arith)) (omega arith)

module _ (s : List ℕ) (bytes : all.Bytes s) where
  read_back_at : (k : ℕ) → k < length s → get_or (bytes_of (hex_of s)) k 0 ≡ get_or s k 0
  read_back_at k h =
      let e₁ : 2 * k / 2 ≡ k = omega arith in
      let e₂ : 2 * k % 2 ≡ 0 = omega arith in
      let e₃ : (2 * k + 1) / 2 ≡ k = omega arith in
      let e₄ : (2 * k + 1) % 2 ≡ 1 = omega arith in
      bytes_of-at (hex_of s) k (omega (arith, length-hex_of s))
      ∙ rw (hex_of-at s (2 * k) (omega arith), hex_of-at s (2 * k + 1) (omega arith), e₁, e₂, e₃, e₄)
      (pair_halves (get_or s k 0) (all-at k 0 (omega arith) bytes))

  pub bytes_of-hex_of : bytes_of (hex_of s) ≡ s
  bytes_of-hex_of =
      let e : length (bytes_of (hex_of s)) ≡ length s = omega (arith, length-bytes_of (hex_of s), length-hex_of s) in
      ext_get_or 0 (bytes_of (hex_of s)) s e (λ k h. read_back_at k (omega arith))

-- what was decoded: no digit is bad, there are two to a byte, and the bytes fit
pub record Decodes (s : List ℕ) (room k : ℕ) : Type 0 where
  pub digits : length s ≤ place is_bad s
  pub even : length s % 2 ≡ 0
  pub count : k ≡ length s / 2
  pub fits : k ≤ room

module _ (s : List ℕ) (room k : ℕ) where
  abbrev If : Result ℕ DecodeError → Type 0
  If d = d ≡ Ok k → Decodes s room k

  never : (d : Result ℕ DecodeError) → (d ≡ Ok k → ⊥) → If d
  never d h e = absurd (h e)

  always : length s ≤ place is_bad s → (length s % 2 ≡ 1 → ⊥) → length s / 2 ≤ room → If (Ok (length s / 2))
  always h g f e = let z : k ≡ length s / 2 = cc in record {
    digits = h;
    even = omega arith;
    count = z;
    fits = omega
        arith;
  }

  pub decodes : If (decode_of s room)
  unfolding decode_of
  decodes =
      pick_ind If (ltb (place is_bad s) (length s)) (λ h. never _ (λ e. let z : ◌≡◌ {A = ℕ} 0 1 = cc in omega arith))
      (λ h. pick_ind If (eqb (length s % 2) 1) (λ g. never _ (λ e. let z : ◌≡◌ {A = ℕ} 0 1 = cc in omega arith))
      (λ g. pick_ind If (ltb room (length s / 2)) (λ f. never _ (λ e. let z : ◌≡◌ {A = ℕ} 0 1 = cc in omega arith))
      (λ f. always (ltb-false _ _ h) (eqb-false _ _ g) (ltb-false room _ f))))

-- the digit of a digit's number
digit_low : (n : ℕ) → n < 10 → digit_of n ≡ 48 + n
unfolding digit_of pick
digit_low n h = rw (lt-ltb n 10 h)

digit_high : (n : ℕ) → 10 ≤ n → digit_of n ≡ 87 + n
unfolding digit_of pick
digit_high n h = rw (le-ltb n 10 h)

module _ (c : ℕ) where
  abbrev Given : Option ℕ → Type 0
  Given o = is_none o ≡ false → (unwrap_or o 0 < 16) × (digit_of (unwrap_or o 0) ≡ c)

  no_digit : Given None
  no_digit h = absurd (true≢false h)

  pub digit_value : Given (value_of c)
  unfolding value_of
  digit_value =
      pick_ind Given (ltb c 48) (λ _. no_digit)
      (λ a. pick_ind Given (ltb c 58) (λ e h. let l = ltb-false c 48 a in let u = ltb-true c 58 e in
      (omega arith, digit_low (c - 48) (omega arith) ∙ omega arith))
      (λ _. pick_ind Given (ltb c 97) (λ _. no_digit)
      (λ b. pick_ind Given (ltb c 103) (λ e h. let l = ltb-false c 97 b in let u = ltb-true c 103 e in
      (omega arith, digit_high (c - 87) (omega arith) ∙ omega arith)) (λ _. no_digit))))

  -- of no digit it is 0
  pub number_small : unwrap_or (value_of c) 0 < 16
  number_small = go (value_of c) digit_value
    where
      go : (o : Option ℕ) → Given o → unwrap_or o 0 < 16
      go None g = omega arith
      go (Some n) g = (g refl).0

-- digits that were read are those that would be written
halves_pair : (a b : ℕ) → a < 16 → b < 16 → (half_of (a * 16 + b) 0 ≡ a) × (half_of (a * 16 + b) 1 ≡ b)
unfolding half_of pick
halves_pair a b h g = (omega arith, omega arith)

module _ (s : List ℕ) (good : length s ≤ place is_bad s) (even : length s % 2 ≡ 0) where
  digit_back : (i : ℕ) → i < length s → (unwrap_or (value_of (get_or s i 0)) 0 < 16)
      × (digit_of (unwrap_or (value_of (get_or s i 0)) 0) ≡ get_or s i 0)
  digit_back i h = digit_value (get_or s i 0) (place-first is_bad s 0 i (omega arith))

  byte_at : (j : ℕ) → j < length s / 2
      → get_or (bytes_of s) j 0 ≡ unwrap_or (value_of (get_or s (2 * j) 0)) 0 * 16
      + unwrap_or (value_of (get_or s (2 * j + 1) 0)) 0
  unfolding pair_of
  byte_at j h = bytes_of-at s j h

  first_back : (j : ℕ) → j < length s / 2 → get_or (hex_of (bytes_of s)) (2 * j) 0 ≡ get_or s (2 * j) 0
  first_back j h =
      let e₁ : 2 * j / 2 ≡ j = omega arith in
      let e₂ : 2 * j % 2 ≡ 0 = omega arith in
      let a = digit_back (2 * j) (omega arith) in
      let b = digit_back (2 * j + 1) (omega arith) in
      let p = halves_pair _ _ a.0 b.0 in
      hex_of-at (bytes_of s) (2 * j) (omega (arith, length-bytes_of s))
      ∙ rw (e₁, e₂, byte_at j h) (ap digit_of p.0 ∙ a.1)

  second_back : (j : ℕ) → j < length s / 2 → get_or (hex_of (bytes_of s)) (2 * j + 1) 0 ≡ get_or s (2 * j + 1) 0
  second_back j h =
      let e₁ : (2 * j + 1) / 2 ≡ j = omega arith in
      let e₂ : (2 * j + 1) % 2 ≡ 1 = omega arith in
      let a = digit_back (2 * j) (omega arith) in
      let b = digit_back (2 * j + 1) (omega arith) in
      let p = halves_pair _ _ a.0 b.0 in
      hex_of-at (bytes_of s) (2 * j + 1) (omega (arith, length-bytes_of s))
      ∙ rw (e₁, e₂, byte_at j h) (ap digit_of p.1 ∙ b.1)

  back_at : (i : ℕ) → i < length s → get_or (hex_of (bytes_of s)) i 0 ≡ get_or s i 0
  back_at i h = go (is (eqb (i % 2) 0))
    where
      go : Is (eqb (i % 2) 0) → get_or (hex_of (bytes_of s)) i 0 ≡ get_or s i 0
      go (is_t e) = let z = eqb-true (i % 2) 0 e in let f : i ≡ 2 * (i / 2) = omega arith in subst
          (λ (k : ℕ). get_or (hex_of (bytes_of s)) k 0 ≡ get_or s k 0) (sym f) (first_back (i / 2) (omega arith))
      go (is_f e) = let z = eqb-false (i % 2) 0 e in let f : i ≡ 2 * (i / 2) + 1 = omega arith in subst
          (λ (k : ℕ). get_or (hex_of (bytes_of s)) k 0 ≡ get_or s k 0) (sym f) (second_back (i / 2) (omega arith))

  pub hex_of-bytes_of : hex_of (bytes_of s) ≡ s
  hex_of-bytes_of =
      let e : length (hex_of (bytes_of s)) ≡ length s = omega (arith, length-hex_of (bytes_of s), length-bytes_of s) in
      ext_get_or 0 (hex_of (bytes_of s)) s e (λ i h. back_at i (omega arith))

  pub bytes_of-bytes : all.Bytes (bytes_of s)
  bytes_of-bytes = at_all 0 (bytes_of s) (λ j h.
      let a = number_small (get_or s (2 * j) 0) in
      let b = number_small (get_or s (2 * j + 1) 0) in
      rw (byte_at j (omega (arith, length-bytes_of s))) (omega arith))

-- digits that are written are decoded
half_small : (b j : ℕ) → b < 256 → half_of b j < 16
unfolding half_of
half_small b j h = pick_ind (λ (n : ℕ). n < 16) (eqb j 0) (λ _. omega arith) (λ _. omega arith)

pub decode-hex_of : (b : List ℕ) (room : ℕ) → all.Bytes b → length b ≤ room → decode_of (hex_of b) room ≡ Ok (length b)
decode-hex_of b room w h =
    let n = length-hex_of b in
    let z : length (hex_of b) / 2 ≡ length b = omega arith in
    let good : length (hex_of b) ≤ place is_bad (hex_of b) = place_none is_bad 0 (hex_of b)
    (λ i l. digit_good b w i (omega arith)) in
    sym (decode-bytes (hex_of b) room good (λ e. omega arith) (omega arith)) ∙ ap Ok z
  where
    digit_good : (b : List ℕ) → all.Bytes b → (i : ℕ) → i < 2 * length b → is_bad (get_or (hex_of b) i 0) ≡ false
    digit_good b w i h =
        let g = half_small (get_or b (i / 2) 0) (i % 2) (all-at (i / 2) 0 (omega arith) w) in
        rw (hex_of-at b i h, value_digit _ g)
