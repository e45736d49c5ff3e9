-- Lines one after another, in a text: what is printed for them, and what they leave.
-- Assumes nothing.
use Rattle.std.specs.Prelude.{◌≡◌, true, not, ◌⊎◌, List, [], ◌∷◌, ◌++◌, ℕ, ◌+◌, ◌*◌, ◌≤◌, ◌<◌, length, take, drop}
use Rattle.lists.specs.All.{All}
use Rattle.lists.specs.Search.{every}
use Rattle.text.specs.Line.{is_newline}
use Rattle.configuration.specs.Delivered.{delivered}
use Rattle.machine.specs.Machine.{State, guard as digest_store}
use Rattle.guard.specs.Promise.{Kept, held}
use Rattle.desk_lines.specs.Lines.{DeskLine, most_bytes, line_of, Puts, Prints}
use Rattle.desk.specs.Answered.{printed_for, state_for}

-- no line feed in it
abbrev pub OneLine : List ℕ → Type 0
OneLine l = every (λ b. not (is_newline b)) l ≡ true

-- lines as a text: a line feed behind each
unfoldable pub text_of : List (List ℕ) → List ℕ
text_of [] = []
text_of (l ∷ ls) = l ++ (10 ∷ text_of ls)

-- one line for each (SPECIFICATION 12.1)
unfoldable pub printed_through : State (digest_store delivered) → List (List ℕ) → List ℕ
printed_through s [] = []
printed_through s (l ∷ ls) = printed_for s (line_of l) ++ printed_through (state_for s (line_of l)) ls

unfoldable pub state_through : State (digest_store delivered) → List (List ℕ) → State (digest_store delivered)
state_through s [] = s
state_through s (l ∷ ls) = state_through (state_for s (line_of l)) ls

-- one line, its answer put into a buffer from i to r
pub record AnswersAt (m : List ℕ) (x : DeskLine) (i r : ℕ) (m' d d' : List ℕ) : Type 0 where
  pub puts : Kept m → Puts (printed_for (held m) x) i r d d'
  pub state : Kept m → held m' ≡ state_for (held m) x
  pub kept : Kept m → Kept m'
  -- whatever the memory holds
  pub fits : r ≤ length d'
  pub after : i ≤ r
  pub same_length : length m' ≡ length m

-- lines that are the first `at` bytes of a text, their answers at the front of a buffer, `filled` bytes
pub record Through (m text : List ℕ) (at filled : ℕ) (m' d d' : List ℕ) : Type 0 where
  pub lines : List (List ℕ)
  pub are_lines : All OneLine lines
  pub taken : take at text ≡ text_of lines
  pub prints : Kept m → Prints (printed_through (held m) lines) filled d d'
  pub state : Kept m → held m' ≡ state_through (held m) lines
  pub kept : Kept m → Kept m'
  pub within : at ≤ length text
  pub fits : filled ≤ length d'
  pub same_length : length m' ≡ length m

-- all lines that end in the text, or as many as the buffer has room for
pub record AnswersLines (m text : List ℕ) (at filled : ℕ) (m' d d' : List ℕ) : Type 0 where
  pub through : Through m text at filled m' d d'
  pub all : OneLine (drop at text) ⊎ (length d' < filled + (29 + 2 * most_bytes))
