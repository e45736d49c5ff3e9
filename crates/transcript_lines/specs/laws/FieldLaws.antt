-- Fields by the place of a blank, and a load's two fields read one after the other.
-- Assumes nothing.
use Rattle.std.specs.Prelude.{◌≡◌, refl, List, [], ℕ, ◌+◌, ◌-◌, length, take, drop, Result, Ok, Err, Some, None}
use Rattle.std.specs.List.{position}
use Rattle.std.specs.Result.{IsErrAnd}
use Rattle.std.proofs.Common.{sym, ap, ◌∙◌, arith, take_all, length-take-le, drop_of_length-le}
use Rattle.std.proofs.lemmas.Result.{err_from_is_err_and}
use Rattle.lists.specs.Search.{place, place_most}
use Rattle.text.specs.Hex.{decode_of, decoded_in}
use Rattle.text.specs.declared.hex.DecodeError.{DecodeError}
use Rattle.text.specs.laws.PlaceLaws.{place_found, place_missed}
use Rattle.desk_lines.specs.laws.Printing.{all_behind}
use Rattle.transcript_lines.specs.Fields.{is_blank, field_length, first_field, behind_field, two_fields_length}
use Rattle.transcript_lines.specs.Fields.{load_from, digest_left, ReadsLoad}
use Rattle.transcript_lines.specs.declared.Load.{Load}

-- a blank at k
pub field_found : (s : List ℕ) (k : ℕ) → position is_blank s ≡ Some k
    → (take k s ≡ first_field s) × (take (length s - (k + 1)) (drop (k + 1) s) ≡ behind_field s)
unfolding first_field behind_field field_length
field_found s k h =
    let p = sym (place_found is_blank s k h).0 in
    (ap (λ (n : ℕ). take n s) p, all_behind s (k + 1) (length s) refl ∙ ap (λ (n : ℕ). drop (n + 1) s) p)

-- none
pub field_missed : (s : List ℕ) → position is_blank s ≡ None
    → (s ≡ first_field s) × (take (length s - length s) (drop (length s) s) ≡ behind_field s)
unfolding first_field behind_field field_length
field_missed s h =
    let p = place_missed is_blank s h in
    let z : drop (length s) s ≡ [] = drop_of_length-le s {i = length s} (omega arith) in
    let y : drop (place is_blank s + 1) s ≡ [] = drop_of_length-le s {i = place is_blank s + 1} (omega arith) in
    (sym (take_all (place is_blank s) s p), all_behind s (length s) (length s) refl ∙ z ∙ sym y)

length-first_field : (s : List ℕ) → length (first_field s) ≡ field_length s
unfolding first_field field_length
length-first_field s = length-take-le (place is_blank s) s (place_most is_blank s)

pub two_taken : (s a r b : List ℕ) → a ≡ first_field s → r ≡ behind_field s → b ≡ first_field r
    → take (length a + 1 + length b) s ≡ take (two_fields_length s) s
unfolding two_fields_length
two_taken s a r b e f h = rw (h, f, e, length-first_field s, length-first_field (behind_field s)) refl

-- the first field f read into i, now i': x is what came of it
module _ (text f t i i' : List ℕ) (x : Result ℕ DecodeError) (is_first : f ≡ first_field text)
    (is_rest : t ≡ behind_field text) (a : x ≡ decode_of f (length i)) (l : i' ≡ decoded_in x f i)
  where
    known : decode_of (first_field text) (length i) ≡ x
    known = ap (λ (z : List ℕ). decode_of z (length i)) (sym is_first) ∙ sym a

    left : i' ≡ decoded_in (decode_of (first_field text) (length i)) (first_field text) i
    left = rw (known, ← is_first) l

    pub load_refused : (d : List ℕ) (r : Result Load DecodeError) (e : DecodeError) → x ≡ Err e
        → IsErrAnd r (λ y. y ≡ e) → ReadsLoad text r i i' d d
    unfolding load_from digest_left
    load_refused d r e w h =
        let p = err_from_is_err_and r h in
        record {
          answer = rw (known, w) (p.1 ∙ ap Err p.2);
          image = left;
          digest = rw (known, w) refl;
        }

    -- the rest read into d, now d'
    module _ (d d' : List ℕ) (n : ℕ) (w : x ≡ Ok n) (y : Result ℕ DecodeError) (b : y ≡ decode_of t (length d))
        (m : d' ≡ decoded_in y t d)
      where
        known_too : decode_of (behind_field text) (length d) ≡ y
        known_too = ap (λ (z : List ℕ). decode_of z (length d)) (sym is_rest) ∙ sym b

        left_too : d' ≡ digest_left (decode_of (first_field text) (length i)) (behind_field text) d
        unfolding digest_left
        left_too = rw (known, w, known_too, ← is_rest) m

        pub digest_refused : (r : Result Load DecodeError) (e : DecodeError) → y ≡ Err e
            → IsErrAnd r (λ z. z ≡ e) → ReadsLoad text r i i' d d'
        unfolding load_from
        digest_refused r e v h =
            let p = err_from_is_err_and r h in
            record { answer = rw (known, w, known_too, v) (p.1 ∙ ap Err p.2); image = left; digest = left_too }

        pub load_read : (k : ℕ) → y ≡ Ok k → ReadsLoad text (Ok (record { image = n; digest = k })) i i' d d'
        unfolding load_from
        load_read k v = record { answer = rw (known, w, known_too, v) refl; image = left; digest = left_too }
