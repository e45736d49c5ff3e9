-- The lines of the program `deskrun` (SPECIFICATION 12): what one that is read means, and what is printed for an
-- answer.
-- Assumes nothing.
use Rattle.std.specs.Prelude.{Option, None, Some, Result, Ok, Err}
use Rattle.std.specs.Prelude.{◌≡◌, List, [], ◌∷◌, ◌++◌, ℕ, ◌+◌, ◌-◌, ◌*◌, ◌≤◌, length, take, drop}
use Rattle.lists.specs.Pick.{pick}
use Rattle.lists.specs.Parts.{overwrite}
use Rattle.text.specs.Ascii.{ascii}
use Rattle.text.specs.Digits.{decimal_of}
use Rattle.text.specs.Hex.{hex_of, bytes_of, decode_of}
use Rattle.text.specs.Line.{begins}
use Rattle.text.specs.declared.hex.DecodeError.{DecodeError}
use Rattle.filesystem.specs.Tables.{NODES, NAME_BYTES, ID_BYTES}
use Rattle.rules.specs.Skeleton.{Answer, done, ask, refused, stopped, at_front}
use Rattle.desk_lines.specs.declared.Entry.{Entry}
use Rattle.desk_lines.specs.declared.Entry.TheVariants.{Call, Reply}
use Rattle.desk_lines.specs.declared.Line.{Line}

-- at most 9,690 bytes: as many as the longest listing has (`most_answer`)
abbrev pub most_bytes : ℕ
most_bytes = (NODES - 1) * (ID_BYTES + (2 + NAME_BYTES))

pub data DeskLine : Type 0 where
  call_line reply_line : (bytes : List ℕ) → DeskLine
  bad_line : DeskLine

-- in lower-case hexadecimal (SPECIFICATION 12.2, 12.3): a bad digit, an odd number of them or too many make the line
-- bad
unfoldable pub decoded_as : (List ℕ → DeskLine) → List ℕ → Result ℕ DecodeError → DeskLine
decoded_as kind s (Ok n) = kind (bytes_of s)
decoded_as kind s (Err e) = bad_line

unfoldable pub hex_line : (List ℕ → DeskLine) → List ℕ → DeskLine
hex_line kind s = decoded_as kind s (decode_of s most_bytes)

-- `c ` and a call, or `r ` and a reply, without the line feed; specs/laws/Spelled.antt says that a line is read exactly
-- where it is written so
unfoldable pub line_of : List ℕ → DeskLine
line_of s =
    pick (begins s (ascii "c ")) (hex_line call_line (drop 2 s))
    (pick (begins s (ascii "r ")) (hex_line reply_line (drop 2 s))
    bad_line)

unfoldable pub line_bytes : DeskLine → List ℕ
line_bytes (call_line b) = b
line_bytes (reply_line b) = b
line_bytes bad_line = []

-- the bytes, if there are any, behind a blank
unfoldable pub any_bytes : List ℕ → List ℕ
any_bytes [] = []
any_bytes (x ∷ b) = ascii " " ++ hex_of (x ∷ b)

-- what is printed (SPECIFICATION 12.5), and a line feed
unfoldable pub printed : Answer → List ℕ
printed (ask q) = ascii "ask " ++ (hex_of q ++ ascii "\n")
printed (done n b) = ascii "done " ++ (decimal_of n ++ (any_bytes b ++ ascii "\n"))
printed (refused n) = ascii "refused " ++ (decimal_of n ++ ascii "\n")
printed (stopped n) = ascii "stopped " ++ (decimal_of n ++ ascii "\n")

-- for every other line
unfoldable pub printed_bad : List ℕ
printed_bad = ascii "bad line\n"

-- what the code answers, and the front of its buffer, are a line
unfoldable pub line_for : Entry → List ℕ → DeskLine
line_for Call b = call_line b
line_for Reply b = reply_line b

unfoldable pub line_in : Option Line → List ℕ → DeskLine
line_in (Some l) d = line_for l.entry (take l.length d)
line_in None d = bad_line

abbrev pub length_of : Option Line → ℕ
length_of (Some l) = l.length
length_of None = 0

-- the line x read into a buffer, before d and now d': its bytes are at the front, what lies behind is untouched
pub record Reads (x : DeskLine) (r : Option Line) (d d' : List ℕ) : Type 0 where
  pub line : line_in r d' ≡ x
  pub buffer : d' ≡ at_front (line_bytes x) d
  pub most : length_of r ≤ most_bytes

-- x put into a buffer, before d and now d', over the part from i to r
pub record Puts (x : List ℕ) (i r : ℕ) (d d' : List ℕ) : Type 0 where
  pub buffer : d' ≡ overwrite d i x
  pub end : r ≡ i + length x

-- a line printed at the front of a buffer, before d and now d': r bytes
pub record Prints (line : List ℕ) (r : ℕ) (d d' : List ℕ) : Type 0 where
  pub buffer : d' ≡ at_front line d
  pub count : r ≡ length line
  pub fits : r ≤ length d'
