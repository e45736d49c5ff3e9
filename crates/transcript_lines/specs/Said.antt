-- The line of a save's answer: its outcome's, with the digest behind the image.
-- Assumes nothing.
use Rattle.std.specs.Prelude.{List, ◌++◌, ℕ, ◌+◌, ◌-◌, leb, length, take}
use Rattle.lists.specs.Pick.{pick}
use Rattle.text.specs.Ascii.{ascii}
use Rattle.text.specs.Hex.{hex_of}
use Rattle.outcomes.specs.declared.Outcome.{Outcome}
use Rattle.outcomes.specs.declared.Outcome.TheVariants.{Done, Ask, Refused, Stopped}
use Rattle.transcript_lines.specs.Room.{answer_line}

-- x behind a line, where there is room for it
unfoldable pub behind : (line x : List ℕ) → List ℕ
behind line x = pick (leb (length line + length x) answer_line) (line ++ x) line

-- a blank and a digest's digits before the line feed
unfoldable pub with_digest : (line digest : List ℕ) → List ℕ
with_digest line digest =
    behind (behind (behind (take (length line - 1) line) (ascii " ")) (hex_of digest)) (ascii "\n")

-- only a save that is done has a digest
unfoldable pub saved_line : Outcome → (line digest : List ℕ) → List ℕ
saved_line (Done n l) line digest = with_digest line digest
saved_line (Ask l) line digest = line
saved_line (Refused e) line digest = line
saved_line (Stopped e) line digest = line
