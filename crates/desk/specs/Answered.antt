-- What the desk does with a line: the guard's step on the event that the line is, and what is printed for its answer.
-- Assumes nothing.
use Rattle.std.specs.Prelude.{◌≡◌, List, ℕ, ◌≤◌, length}
use Rattle.rules.specs.Skeleton.{Event, call, reply, answer_length, request_length}
use Rattle.configuration.specs.Delivered.{delivered}
use Rattle.machine.specs.Machine.{State, step, guard as digest_store}
use Rattle.guard.specs.Promise.{Kept, held}
use Rattle.desk_lines.specs.declared.Entry.{Entry}
use Rattle.desk_lines.specs.declared.Entry.TheVariants.{Call, Reply}
use Rattle.desk_lines.specs.Lines.{DeskLine, call_line, reply_line, bad_line, printed, printed_bad, Prints}

-- the event that an entry's bytes are, with the lengths of both buffers
unfoldable pub event_for : Entry → List ℕ → ℕ → ℕ → Event
event_for Call = call
event_for Reply = reply

-- buffers that are long enough (SPECIFICATION 12.1)
module _ (s : State (digest_store delivered)) where
  unfoldable pub printed_for : DeskLine → List ℕ
  printed_for (call_line b) = printed (step delivered (digest_store delivered) s
      (call b (answer_length delivered) (request_length delivered))).outcome.answer
  printed_for (reply_line b) = printed (step delivered (digest_store delivered) s
      (reply b (answer_length delivered) (request_length delivered))).outcome.answer
  printed_for bad_line = printed_bad

  unfoldable pub state_for : DeskLine → State (digest_store delivered)
  state_for (call_line b) = (step delivered (digest_store delivered) s
      (call b (answer_length delivered) (request_length delivered))).state
  state_for (reply_line b) = (step delivered (digest_store delivered) s
      (reply b (answer_length delivered) (request_length delivered))).state
  state_for bad_line = s

-- the memory, before m and now m', and the line printed at the front of a buffer, before d and now d': r bytes
pub record Answers (m : List ℕ) (x : DeskLine) (r : ℕ) (m' d d' : List ℕ) : Type 0 where
  pub prints : Kept m → Prints (printed_for (held m) x) r d d'
  pub state : Kept m → held m' ≡ state_for (held m) x
  pub kept : Kept m → Kept m'
  -- whatever the memory holds
  pub fits : r ≤ length d'
  pub same_length : length m' ≡ length m
