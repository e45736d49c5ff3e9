-- Fields of a line, with a blank between them, and what a load's two fields are read as.
-- Assumes nothing.
use Rattle.std.specs.Prelude.{◌≡◌, Result, Ok, Err, List, ℕ, ◌+◌, eqb, Bool, length, take, drop}
use Rattle.lists.specs.Search.{place}
use Rattle.text.specs.Hex.{decode_of, decoded_in}
use Rattle.text.specs.declared.hex.DecodeError.{DecodeError}
use Rattle.transcript_lines.specs.declared.Load.{Load}

abbrev pub is_blank : ℕ → Bool
is_blank c = eqb c 32

-- how long the first field is: up to the first blank, or to the end
unfoldable pub field_length : List ℕ → ℕ
field_length s = place is_blank s

-- the first field, and what stands behind its blank
unfoldable pub first_field : List ℕ → List ℕ
first_field s = take (field_length s) s

unfoldable pub behind_field : List ℕ → List ℕ
behind_field s = drop (field_length s + 1) s

-- how long the first two fields are with the blank between them; one more where there is no blank
unfoldable pub two_fields_length : List ℕ → ℕ
two_fields_length s = field_length s + 1 + field_length (behind_field s)

-- the digits s of an image and t of its digest, read into buffers i and d: the first that are refused refuse both, and
-- a digest behind a refused image is not read
unfoldable pub load_from : Result ℕ DecodeError → Result ℕ DecodeError → Result Load DecodeError
load_from (Ok i) (Ok d) = Ok (record { image = i; digest = d })
load_from (Ok i) (Err e) = Err e
load_from (Err e) d = Err e

unfoldable pub digest_left : Result ℕ DecodeError → (t d : List ℕ) → List ℕ
digest_left (Ok i) t d = decoded_in (decode_of t (length d)) t d
digest_left (Err e) t d = d

pub record ReadsLoad (text : List ℕ) (r : Result Load DecodeError) (i i' d d' : List ℕ) : Type 0 where
  pub answer : r ≡ load_from (decode_of (first_field text) (length i)) (decode_of (behind_field text) (length d))
  pub image : i' ≡ decoded_in (decode_of (first_field text) (length i)) (first_field text) i
  pub digest : d' ≡ digest_left (decode_of (first_field text) (length i)) (behind_field text) d
