-- Bytes as lower-case hexadecimal digits, two to a byte, the high half first.
-- Assumes nothing.
use Rattle.std.specs.Prelude.{Bool, List, ℕ, ◌+◌, ◌-◌, ◌*◌, ◌/◌, ◌%◌, ltb, eqb, length, get_or, is_none, unwrap_or}
use Rattle.std.specs.Prelude.{Option, None, Some, Result, Ok, Err}
use Rattle.lists.specs.Pick.{pick}
use Rattle.lists.specs.Parts.{overwrite}
use Rattle.lists.specs.Cells.{tab}
use Rattle.lists.specs.Search.{place}
use Rattle.text.specs.declared.hex.DecodeError.{DecodeError}
use Rattle.text.specs.declared.hex.DecodeError.TheVariants.{BadDigit, Odd, TooLong}

-- the digit of a number below 16
unfoldable pub digit_of : ℕ → ℕ
digit_of n = pick (ltb n 10) (48 + n) (87 + n)

-- the number of a digit
unfoldable pub value_of : ℕ → Option ℕ
value_of c =
    pick (ltb c 48) None
    (pick (ltb c 58) (Some (c - 48)) (pick (ltb c 97) None (pick (ltb c 103) (Some (c - 87)) None)))

-- half j of a byte
unfoldable pub half_of : ℕ → ℕ → ℕ
half_of b j = pick (eqb j 0) (b / 16) (b % 16)

-- bytes as digits
unfoldable pub hex_of : List ℕ → List ℕ
hex_of s = tab (2 * length s) (λ i. digit_of (half_of (get_or s (i / 2) 0) (i % 2)))

-- the byte of two digits
unfoldable pub pair_of : ℕ → ℕ → ℕ
pair_of a b = unwrap_or (value_of a) 0 * 16 + unwrap_or (value_of b) 0

-- digits as bytes
unfoldable pub bytes_of : List ℕ → List ℕ
bytes_of s = tab (length s / 2) (λ k. pair_of (get_or s (2 * k) 0) (get_or s (2 * k + 1) 0))

abbrev pub is_bad : ℕ → Bool
is_bad c = is_none (value_of c)

-- what reading digits into a buffer answers: the first bad digit, an odd number of them, more bytes than room, or the
-- bytes
unfoldable pub decode_of : List ℕ → ℕ → Result ℕ DecodeError
decode_of s room =
    pick (ltb (place is_bad s) (length s)) (Err (BadDigit (place is_bad s)))
    (pick (eqb (length s % 2) 1) (Err Odd)
    (pick (ltb room (length s / 2)) (Err TooLong) (Ok (length s / 2))))

-- and what the buffer then holds: the bytes at its front, or what it held
unfoldable pub decoded_in : Result ℕ DecodeError → List ℕ → List ℕ → List ℕ
decoded_in (Ok n) s d = overwrite d 0 (bytes_of s)
decoded_in (Err e) s d = d
