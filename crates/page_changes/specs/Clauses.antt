-- What the functions of a page change promise, of the pending change w (`write_in`, `shrink_in`) of a memory.
-- Moves m q f r            memory, request buffer and outcome are those of f, where the open file of the change is
-- there
--   Goes m q w i f r         the same of a change whose pages before i were sent, at the delivered digest
--   StartsAt m q make o k r  a call that passed is begun, on the open file in place o and the node in place k
-- Assumes nothing.
use Rattle.std.specs.Prelude.{◌≡◌, List, ℕ, ◌<◌}
use Rattle.numbers.specs.Slices.{Lent, KeepsLength}
use Rattle.digest.specs.Sha256.{sha256}
use Rattle.rules.specs.Calls.{Call}
use Rattle.rules.specs.Pages.{Change}
use Rattle.rules.specs.Skeleton.{Config}
use Rattle.rules.specs.Rules.{call_action}
use Rattle.machine.specs.Machine.{State, Result, apply, guard as digest_store}
use Rattle.machine.specs.Consistent.{Consistent}
use Rattle.handle_calls.specs.Passed.{PassedAt}
use Rattle.guard_state.specs.State.{numbers_in, state_of}
use Rattle.outcomes.specs.declared.Outcome.{Outcome}
use Rattle.outcomes.specs.Sent.{Sends}
use Rattle.page_changes.specs.Sending.{Sending}

abbrev pub Moves : (m q : Lent) → ((c : Config) → State (digest_store c) → Result (digest_store c)) → Outcome → Type 0
Moves m q f r =
    ((c : Config) → (numbers_in m.entry.now).opened < (numbers_in m.entry.now).opens
    → Sends c (f c (state_of c m.entry.now)) r m.exit.now q.entry.now q.exit.now)
    × KeepsLength m

-- what the machine does with a change of a node by an open file
abbrev pub Doing : Type 0
Doing = (c : Config) → State (digest_store c) → (node opened : ℕ) → Change → Result (digest_store c)

abbrev pub doing : Doing → (m : Lent) → (List ℕ → Change) → (c : Config) → Result (digest_store c)
doing f m w c = f c (state_of c m.entry.now) (numbers_in m.entry.now).node (numbers_in m.entry.now).opened
    (w m.entry.now)

abbrev pub Goes : (m q : Lent) → (List ℕ → Change) → ℕ → Doing → Outcome → Type 0
Goes m q w i f r =
    ((c : Config) → c.digest ≡ sha256 → Sending c m.entry.now (w m.entry.now) i
    → Sends c (doing f m w c) r m.exit.now q.entry.now q.exit.now)
    × KeepsLength m

abbrev pub StartsAt : (m q : Lent) → (ℕ → Call) → (opened node : ℕ) → Outcome → Type 0
StartsAt m q make o k r =
    ((c : Config) → c.digest ≡ sha256 → Consistent c (state_of c m.entry.now) → (handle : ℕ)
    → PassedAt (state_of c m.entry.now).skeleton.tables handle (make handle) o k
    → Sends c (apply c (digest_store c) (state_of c m.entry.now)
    (call_action (state_of c m.entry.now).skeleton.tables c.width (make handle)))
    r m.exit.now q.entry.now q.exit.now)
    × KeepsLength m
