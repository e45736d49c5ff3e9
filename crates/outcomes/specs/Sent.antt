-- What an event leaves: the outcome, the memory and the buffer that it writes are those of the machine's result.
--   settled c r s     the state once a stop has been carried out
--   Sends             outcome, memory and request buffer are those of a result; the answer buffer is not touched
--   Fills             the same with the answer buffer in place of the request buffer
--   Leaves            the same with both
--   Asks m q p x r    a call waits as p, and its request x goes out
-- Assumes nothing.
use Rattle.std.specs.Prelude.{◌≡◌, List, ℕ, length}
use Rattle.numbers.specs.Slices.{Lent, KeepsLength}
use Rattle.rules.specs.Requests.{Pending}
use Rattle.rules.specs.Skeleton.{Config, answer_bytes, request_bytes, at_front}
use Rattle.machine.specs.Machine.{State, Result, guard as digest_store}
use Rattle.guard_state.specs.State.{state_of, gathered_none}
use Rattle.guard_state.specs.Waits.{waits, stops}
use Rattle.outcomes.specs.declared.Outcome.{Outcome}
use Rattle.outcomes.specs.declared.Outcome.TheVariants.{Done, Ask, Refused, Stopped}
use Rattle.outcomes.specs.Values.{length_of, bytes_in, answer_in}

-- A stop is carried out where the outcome leaves the guard (crate guard), so that no branch forgets it.
unfoldable pub settled : (c : Config) → Outcome → State (digest_store c) → State (digest_store c)
settled c (Done n l) s = s
settled c (Ask l) s = s
settled c (Refused n) s = s
settled c (Stopped n) s = stops c s

-- the outcome r, the memory m and the request buffer, before q and now q', are those of x; the answer buffer is not
-- touched
pub record Sends (c : Config) (x : Result (digest_store c)) (r : Outcome) (m q q' : List ℕ) : Type 0 where
  pub state : settled c r (state_of c m) ≡ x.state
  pub answer : (a : List ℕ) → answer_in r a q' ≡ x.outcome.answer
  pub count : length_of r ≡ bytes_in x.outcome.answer
  pub request : q' ≡ at_front (request_bytes x.outcome.answer) q

-- and where bytes go to the front of the answer buffer, before a and now a'; the request buffer is not touched
pub record Fills (c : Config) (x : Result (digest_store c)) (r : Outcome) (m a a' : List ℕ) : Type 0 where
  pub state : settled c r (state_of c m) ≡ x.state
  pub answer : (q : List ℕ) → answer_in r a' q ≡ x.outcome.answer
  pub count : length_of r ≡ bytes_in x.outcome.answer
  pub filled : a' ≡ at_front (answer_bytes x.outcome.answer) a

-- and where both are lent
pub record Leaves (c : Config) (x : Result (digest_store c)) (r : Outcome) (m a a' q q' : List ℕ) : Type 0 where
  pub state : settled c r (state_of c m) ≡ x.state
  pub answer : answer_in r a' q' ≡ x.outcome.answer
  pub count : length_of r ≡ bytes_in x.outcome.answer
  pub filled : a' ≡ at_front (answer_bytes x.outcome.answer) a
  pub request : q' ≡ at_front (request_bytes x.outcome.answer) q

-- a call waits as p, and its request x goes out
abbrev pub Asks : (m q : Lent) → Pending → (x : List ℕ) → Outcome → Type 0
Asks m q p x r = ((c : Config) → state_of c m.exit.now ≡ waits c (state_of c m.entry.now) p gathered_none)
    × KeepsLength m
    × (q.exit.now ≡ at_front x q.entry.now)
    × (r ≡ Ask (length x))
