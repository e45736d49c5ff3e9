-- Digits that were read, and buffers of which the front was lent.
-- Assumes nothing.
use Rattle.std.specs.Prelude.{◌≡◌, refl, List, ℕ, length, take, min, Result, Ok, Err}
use Rattle.std.proofs.Common.{sym, ap, ◌∙◌, arith}
use Rattle.std.proofs.lemmas.List.{take-replicate}
use Rattle.std.proofs.Math.Path.{subst}
use Rattle.lists.specs.PartLaws.{take_overwrite}
use Rattle.text.specs.Hex.{bytes_of, decode_of, decoded_in}
use Rattle.text.specs.declared.hex.DecodeError.{DecodeError}
use Rattle.text.specs.laws.HexCases.{length-bytes_of}
use Rattle.text.specs.laws.HexLaws.{decodes}
use Rattle.rules.specs.Requests.{store_length}
use Rattle.rules.specs.Skeleton.{answer_length, request_length}
use Rattle.configuration.specs.Delivered.{delivered}
use Rattle.desk_lines.specs.Lines.{printed_bad}
use Rattle.transcript_lines.specs.Fields.{first_field, behind_field, load_from, digest_left, ReadsLoad}
use Rattle.transcript_lines.specs.declared.Load.{Load}
use Rattle.transcript_events.specs.Handed.{zeros, Answered, AnsweredDigits, Saved, Loaded, LoadedDigits}
use Rattle.transcript_events.specs.declared.Entry.{Entry}

pub answer-least : answer_length delivered ≡ 9690
unfolding answer_length delivered
answer-least = refl

pub request_least : request_length delivered ≡ 1037
unfolding request_length store_length
request_least = refl

-- the front of a buffer of zeros
lent : (n room k : ℕ) → k ≡ min n room → take k (zeros room) ≡ zeros (min n room)
lent n room k e = ap (λ (z : ℕ). take z (zeros room)) e ∙ take-replicate (min n room) room 0 (omega arith)

pub lent_answered : (e : Entry) (m b m' line : List ℕ) (n l k p q j : ℕ) → k ≡ min n l → j ≡ min p q
    → Answered e m b (take k (zeros l)) (take j (zeros q)) m' line
    → Answered e m b (zeros (min n l)) (zeros (min p q)) m' line
lent_answered e m b m' line n l k p q j f g h =
    subst (λ (z : List ℕ). Answered e m b (zeros (min n l)) z m' line) (lent p q j g)
    (subst (λ (z : List ℕ). Answered e m b z (take j (zeros q)) m' line) (lent n l k f) h)

pub lent_saved : (m m' line : List ℕ) (n l k : ℕ) → k ≡ min n l → Saved m (take k (zeros l)) m' line
    → Saved m (zeros (min n l)) m' line
lent_saved m m' line n l k e h = subst (λ (z : List ℕ). Saved m z m' line) (lent n l k e) h

-- what was decoded stands at the front
pub decoded_taken : (s d : List ℕ) (room n : ℕ) → decode_of s room ≡ Ok n → take n (decoded_in (Ok n) s d) ≡ bytes_of s
unfolding decoded_in
decoded_taken s d room n e =
    let c = (decodes s room n e).count in
    let l = length-bytes_of s in
    take_overwrite d 0 (bytes_of s) n (omega arith) (omega arith)

-- digits that were read, r, into d, now d'
module _ (s d d' : List ℕ) (room : ℕ) (r : Result ℕ DecodeError) (size : length d ≡ room)
    (a : r ≡ decode_of s (length d)) (l : d' ≡ decoded_in r s d)
  where
    known : decode_of s room ≡ r
    known = ap (decode_of s) (sym size) ∙ sym a

    read_front : (n : ℕ) → r ≡ Ok n → take n d' ≡ bytes_of s
    read_front n e =
        ap (take n) (l ∙ ap (λ (z : Result ℕ DecodeError). decoded_in z s d) e)
        ∙ decoded_taken s d room n (known ∙ e)

    pub digits_answered : (e : Entry) (m b x y m' line : List ℕ) (n : ℕ) → r ≡ Ok n → b ≡ take n d'
        → Answered e m b x y m' line → AnsweredDigits (decode_of s room) e m s x y m' line
    unfolding AnsweredDigits
    digits_answered e m b x y m' line n g f h =
        rw (known, g) (subst (λ (z : List ℕ). Answered e m z x y m' line) (f ∙ read_front n g) h)

    pub digits_refused : (e : Entry) (m x y line : List ℕ) (w : DecodeError) → r ≡ Err w → line ≡ printed_bad
        → AnsweredDigits (decode_of s room) e m s x y m line
    unfolding AnsweredDigits
    digits_refused e m x y line w g h = rw (known, g) (h, refl)

-- a load's two fields
load_ok : (x y : Result ℕ DecodeError) (l : Load) → load_from x y ≡ Ok l → (x ≡ Ok l.image) × (y ≡ Ok l.digest)
unfolding load_from
load_ok (Ok i) (Ok d) l e =
    let z : ◌≡◌ {A = Load} (record { image = i; digest = d }) l = cc in
    (ap (λ (k : Load). Ok k.image) z, ap (λ (k : Load). Ok k.digest) z)
load_ok (Ok i) (Err w) l e = absurd (cc)
load_ok (Err w) y l e = absurd (cc)

module _ (text i i' d d' : List ℕ) (image digest : ℕ) (r : Result Load DecodeError) (size : length i ≡ image)
    (size_too : length d ≡ digest) (h : ReadsLoad text r i i' d d')
  where
    abbrev read : Result Load DecodeError
    read = load_from (decode_of (first_field text) image) (decode_of (behind_field text) digest)

    known_load : read ≡ r
    known_load = rw (← size, ← size_too) (sym h.answer)

    pub load_handed : (m b c m' line : List ℕ) (l : Load) → r ≡ Ok l → b ≡ take l.image i' → c ≡ take l.digest d'
        → Loaded m b c m' line → LoadedDigits read m text m' line
    unfolding LoadedDigits digest_left
    load_handed m b c m' line l e f g z =
        let p = load_ok _ _ l (sym h.answer ∙ e) in
        let x = ap (take l.image) (h.image ∙ ap (λ (k : Result ℕ DecodeError). decoded_in k (first_field text) i) p.0)
        ∙ decoded_taken (first_field text) i (length i) l.image p.0 in
        let y = ap (take l.digest) (h.digest
        ∙ ap (λ (k : Result ℕ DecodeError). digest_left k (behind_field text) d) p.0
        ∙ ap (λ (k : Result ℕ DecodeError). decoded_in k (behind_field text) d) p.1)
        ∙ decoded_taken (behind_field text) d (length d) l.digest p.1 in
        rw (known_load, e)
        (subst (λ (k : List ℕ). Loaded m k (bytes_of (behind_field text)) m' line) (f ∙ x)
        (subst (λ (k : List ℕ). Loaded m b k m' line) (g ∙ y) z))

    pub load_refused : (m line : List ℕ) (w : DecodeError) → r ≡ Err w → line ≡ printed_bad
        → LoadedDigits read m text m line
    unfolding LoadedDigits
    load_refused m line w e f = rw (known_load, e) (f, refl)
