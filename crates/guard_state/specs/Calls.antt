-- What is pending, by its number under `header::CALL` (src/calls.rt); any other number is idle.
--   IDLE … RENAMING    the numbers, one for each constructor of the definition; LAST is the last of them
--   OnNode call         it is of a call on a node that is there: open, remove, chmod, readdir, stat
--   question_on          what such a call on the node in place k asks the host; `number` is its mode or its rights
--   Truncating call     it is of a truncation that begins: to fewer bytes, to more
--   truncation_on        what such a truncation to z bytes then waits for
-- Assumes nothing.
use Rattle.std.specs.Prelude.{ℕ, [], ◌∷◌, eqb, get_or}
use Rattle.lists.specs.Pick.{pick}
use Rattle.rules.specs.Pages.{shrinking, growing}
use Rattle.rules.specs.Requests.{Question, opening, removing, changing, listing, stating}
use Rattle.rules.specs.Requests.{Pending, fetching, cutting}

abbrev pub IDLE : ℕ
IDLE = 0

abbrev pub CREATING : ℕ
CREATING = 1

abbrev pub OPENING : ℕ
OPENING = 2

abbrev pub CLOSING : ℕ
CLOSING = 3

abbrev pub REMOVING : ℕ
REMOVING = 4

abbrev pub CHANGING : ℕ
CHANGING = 5

abbrev pub LISTING : ℕ
LISTING = 6

abbrev pub STATING : ℕ
STATING = 7

abbrev pub READING : ℕ
READING = 8

-- of a write: a page is fetched; a page is stored
abbrev pub FETCHING : ℕ
FETCHING = 9

abbrev pub STORING : ℕ
STORING = 10

-- of a truncation to fewer bytes: its page is fetched; its page is stored; the file is cut
abbrev pub SHRINK_FETCHING : ℕ
SHRINK_FETCHING = 11

abbrev pub SHRINK_STORING : ℕ
SHRINK_STORING = 12

abbrev pub CUTTING : ℕ
CUTTING = 13

-- of a truncation to more bytes: the file is cut
abbrev pub GROWING : ℕ
GROWING = 14

-- a map is asked for; a map is to end
abbrev pub MAPPING : ℕ
MAPPING = 15

abbrev pub UNMAPPING : ℕ
UNMAPPING = 16

abbrev pub RENAMING : ℕ
RENAMING = 17

abbrev pub LAST : ℕ
LAST = RENAMING

pub data OnNode : ℕ → Type 0 where
  for_open : OnNode OPENING
  for_remove : OnNode REMOVING
  for_chmod : OnNode CHANGING
  for_readdir : OnNode LISTING
  for_stat : OnNode STATING

unfoldable pub question_on : (call k number : ℕ) → Question
question_on call k number =
    get_or (stating k ∷ stating k ∷ opening k number ∷ stating k ∷ removing k ∷ changing k number ∷ listing k ∷ []) call
    (stating k)

pub data Truncating : ℕ → Type 0 where
  for_shrink : Truncating SHRINK_FETCHING
  for_growth : Truncating GROWING

unfoldable pub truncation_on : (call node opened z : ℕ) → Pending
truncation_on call k o z = pick (eqb call GROWING) (cutting k o (growing z)) (fetching k o (shrinking z) 0)
