-- A call by path as it begins: judged on the state, its request sent.
--   begun c s path make    what the machine makes of the call of these path bytes
--   BeginsPath             memory, request buffer and outcome are then the machine's
--   Reaches w path         what was judged: a place of the tables, and a path that is not too long; or a refusal
--   WalksFirst make        the call's checks begin with those of the walk
--   SendsItself            it goes out as kind, number and path, and waits as `call` says
--   BeginsAs               the same as BeginsPath, for every call that was judged so and goes out so
-- Assumes nothing.
use Rattle.std.specs.Prelude.{◌≡◌, List, ◌++◌, ℕ, ◌<◌, ◌≤◌, length, Ok}
use Rattle.numbers.specs.Slices.{Lent, KeepsLength}
use Rattle.lists.specs.Checks.{Check}
use Rattle.filesystem.specs.Tables.{NODES, PATH_BYTES, Tables}
use Rattle.filesystem.specs.Paths.{Path, path_bytes, walk}
use Rattle.rules.specs.Calls.{Call}
use Rattle.rules.specs.Requests.{asked}
use Rattle.rules.specs.Skeleton.{Config}
use Rattle.rules.specs.Rules.{refuse, send, call_checks, call_action, reach}
use Rattle.machine.specs.Machine.{State, Result, apply, guard as digest_store}
use Rattle.requests.specs.PathRequests.{path_request}
use Rattle.guard_state.specs.Calls.{question_on}
use Rattle.guard_state.specs.State.{state_of}
use Rattle.outcomes.specs.declared.Outcome.{Outcome}
use Rattle.outcomes.specs.Sent.{Sends}
use Rattle.outcomes.specs.Clauses.{Rightly}
use Rattle.refusals.specs.Numbers.{Judged}
use Rattle.path_calls.specs.Judged.{judged, node_for}

unfoldable pub begun : (c : Config) → State (digest_store c) → List ℕ → (Path → Call) → Result (digest_store c)
begun c s path make =
    apply c (digest_store c) s
    (judged refuse (λ p. call_checks s.skeleton.tables (make p)) (λ p. call_action s.skeleton.tables c.width
    (make p)) path)

abbrev pub BeginsPath : (m q : Lent) → (path : List ℕ) → (Path → Call) → Outcome → Type 0
BeginsPath m q path make r =
    Rightly m (λ c s. Sends c (begun c s path make) r m.exit.now q.entry.now q.exit.now)
    × KeepsLength m

-- a call on a node that is there
abbrev pub Reaches : Judged ℕ → List ℕ → Type 0
Reaches w path = (k : ℕ) → w ≡ Ok k → (k < NODES) × (length path ≤ PATH_BYTES)

abbrev pub WalksFirst : (Path → Call) → Type 0
WalksFirst make = (t : Tables) (p : Path) → (cs : List Check) × (call_checks t (make p) ≡ reach t p ++ cs)

abbrev pub SendsItself : (call kind number : ℕ) → (Path → Call) → Type 0
SendsItself call kind number make = (t : Tables) (w : ℕ) (p : Path)
    → call_action t w (make p) ≡ send (asked (question_on call (walk t.nodes 0 p) number))
    (path_request kind number (path_bytes p))

abbrev pub BeginsAs : (m q : Lent) → (path : List ℕ) → Judged ℕ → (call kind number : ℕ) → Outcome → Type 0
BeginsAs m q path w call kind number r =
    ((c : Config) (make : Path → Call) → w ≡ node_for (state_of c m.entry.now).skeleton.tables path
    make
    → SendsItself call kind number make
    → Sends c (begun c (state_of c m.entry.now) path make) r m.exit.now q.entry.now
    q.exit.now)
    × KeepsLength m
