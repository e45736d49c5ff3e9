-- The first numbers of events in the code's terms.
-- Assumes nothing.
use Rattle.std.specs.Prelude.{Bool, not, ◌&&◌, ◌||◌, List, ℕ, eqb, ltb, leb, length}
use Rattle.lists.specs.Pick.{pick}
use Rattle.memory.specs.Layout.{memory_size}
use Rattle.rules.specs.Skeleton.{answer_length, request_length}
use Rattle.configuration.specs.Delivered.{delivered}
use Rattle.guard_state.specs.Calls.{IDLE, LAST}
use Rattle.guard.specs.Promise.{held, first_of}

-- Whether a call is pending, by its number in the header: 114 and 61 (SPECIFICATION 7.4) are about it.
unfoldable pub waits : ℕ → Bool
waits n = not (eqb n IDLE) && leb n LAST

-- A call that a read-only guard does not take: 34 of a memory that is too short, 5, 114, 34 of a buffer, then its own
-- number (SPECIFICATION 14.2).
unfoldable pub refusal_number : List ℕ → (answer request own : ℕ) → ℕ
refusal_number m answer request own =
    pick (ltb (length m) memory_size) 34
    (first_of 114 (pick (ltb answer (answer_length delivered) || ltb request (request_length delivered)) 34 own)
    (held m).skeleton)
