-- Demand 2: what each event comes to, of the guard as it is delivered. The entries' outcomes, memories and buffers
-- are the machine's (crate guard,
-- specs/Promise.antt); here is what the machine's are, each law by its name.
-- Assumes nothing.
use Rattle.std.specs.Prelude.{◌≡◌, true, false, ◌↔◌, ◌⊎◌, List, [], ◌∷◌, ◌++◌, ℕ, ◌+◌, ◌<◌, ◌≤◌, length}
use Rattle.std.proofs.Math.Option.{some}
use Rattle.lists.specs.All.{Bytes}
use Rattle.lists.specs.Checks.{First, Passed}
use Rattle.lists.specs.Search.{without}
use Rattle.filesystem.specs.Tables.{NODES, OPEN_FILES, Node, Tables, open_at}
use Rattle.filesystem.specs.Paths.{Path}
use Rattle.filesystem.specs.Image.{Layout, Image, print, parse, sound}
use Rattle.filesystem.specs.ImageLaws.{Shaped, parse_exactly}
use Rattle.rules.specs.Calls.{create, mkdir, open_as}
use Rattle.rules.specs.Pages.{writing}
use Rattle.rules.specs.Requests.{Pending}
use Rattle.rules.specs.Skeleton.{Event, reply, Answer, done, ask, refused, stopped, plain}
use Rattle.rules.specs.Rules.{Move, send, finish, add, delete, read_page, call_checks, tells_full, event_checks, gives_up}
use Rattle.rules.proofs.Outcomes.{create-full as create-is-full, mkdir-full as mkdir-is-full, open_full as open-is-full}
use Rattle.configuration.specs.Delivered.{delivered}
use Rattle.machine.specs.Machine.{Result, gave_up, apply, finish_change, guard as digest_store}
use Rattle.machine.proofs.StepOutcomes.{GivesUp, step_refused_exactly, refused_unchanged, given_up, after_stop}
use Rattle.machine.proofs.EventLaws.{is_done_answer, Unchanged, stop_checks, only_done_changes, stopped_exactly, finished}
use Rattle.machine.proofs.EventLaws.{added, deleted, requested}
use Rattle.machine.proofs.PartialRuns.{MeetsFull, ComesToPart, guard_partial_write}
use Rattle.machine.proofs.PosixLaws.{read_moves, write_moves}
use Rattle.guard.specs.Promise.{GuardState, step_of}

abbrev answer_of : GuardState → Event → Answer
answer_of s e = (step_of s e).outcome.answer

abbrev nodes_of : Result (digest_store delivered) → List Node
nodes_of r = r.state.skeleton.tables.nodes

abbrev cursor_of : Result (digest_store delivered) → ℕ → ℕ
cursor_of r o = (open_at r.state.skeleton.tables.opens o).cursor

abbrev does : GuardState → Move → Result (digest_store delivered)
does s m = apply delivered (digest_store delivered) s m

pub record Demand2 : Type 0 where
  -- refused n exactly where n is the first number whose condition holds, and then nothing changes; or 28, where a full
  -- disk ends the call, and then nothing is pending, and all else is as it was
  pub refused_exactly : (s : GuardState) (e : Event) (n : ℕ)
      → (answer_of s e ≡ refused n) ↔
      (First n (event_checks delivered s.skeleton e) ⊎ (GivesUp delivered (digest_store delivered) s e × (n ≡ 28)))
  pub refused_same : (s : GuardState) (e : Event) (n : ℕ) → answer_of s e ≡ refused n
      → gives_up delivered s.skeleton e ≡ false → (step_of s e).state ≡ s
  pub gives_up_lem : (s : GuardState) (e : Event) → GivesUp delivered (digest_store delivered) s e
      → step_of s e ≡ gave_up delivered (digest_store delivered) s
  -- stopped n exactly where n is the first reason that holds of a reply that does not end its call so; afterwards every
  -- event is refused 5
  pub stops_exactly : (s : GuardState) (r : List ℕ) (a q n : ℕ)
      → (answer_of s (reply r a q) ≡ stopped n) ↔
      (Passed (event_checks delivered s.skeleton (reply r a q))
      × (tells_full delivered.width r s.skeleton.pending ≡ false)
      × First n (stop_checks delivered (digest_store delivered) s r))
  pub for_good : (s : GuardState) (e : Event) → s.skeleton.stopped ≡ true
      → step_of s e ≡ record { outcome = plain (refused 5); state = s }
  -- tables change only where the answer is done
  pub done_changes : (s : GuardState) (e : Event) → is_done_answer (answer_of s e) ≡ false
      → Unchanged delivered (digest_store delivered) s (step_of s e).state
  -- what a rule says is done is done, and nothing else: the tables are the rule's; a request goes out, and nothing is
  -- said to be done
  pub finishes : (s : GuardState) (t : Tables) (n : ℕ) (b : List ℕ)
      → ((does s (finish t n b)).outcome ≡ plain (done n b)) × ((does s (finish t n b)).state.skeleton.tables ≡ t)
  pub adds : (s : GuardState) (n : Node)
      → ((does s (add n)).outcome ≡ plain (done n.id [])) ×
      (nodes_of (does s (add n)) ≡ s.skeleton.tables.nodes ++ (n ∷ []))
  pub deletes : (s : GuardState) (k : ℕ)
      → ((does s (delete k)).outcome ≡ plain (done 0 [])) ×
      (nodes_of (does s (delete k)) ≡ without k s.skeleton.tables.nodes)
  pub asks : (s : GuardState) (p : Pending) (q : List ℕ)
      → ((does s (send p q)).outcome ≡ plain (ask q)) × ((does s (send p q)).state.skeleton.pending ≡ p)
  -- a count that is named was moved: the cursor stands behind it
  pub reads-move : (s : GuardState) (k o p n i : ℕ) (r : List ℕ) → o < length s.skeleton.tables.opens
      → (m : ℕ) (b : List ℕ)
      → (does s (read_page k o p n i r)).outcome.answer ≡ done m b
      → (m ≡ n) × (cursor_of (does s (read_page k o p n i r)) o ≡ p + n)
  pub writes-move : (s : GuardState) (k o p : ℕ) (d : List ℕ) → o < length s.skeleton.tables.opens
      → ((finish_change delivered (digest_store delivered) s k o (writing p d)).outcome.answer ≡ done (length d) [])
      × (cursor_of (finish_change delivered (digest_store delivered) s k o (writing p d)) o ≡ p + length d)
  -- a write that a full disk meets at page i, with a page stored before it, comes to what the write of the bytes before
  -- page i comes to
  pub writes_partly : (s : GuardState) (h : ℕ) (d : List ℕ) (a b i : ℕ) (ws : List Event) (w : Event) (fs : List Event)
      (r : List ℕ) (x y : ℕ)
      → MeetsFull delivered (digest_store delivered) s h d a b i ws w fs r x y
      → ComesToPart delivered (digest_store delivered) s h d a b i ws w fs r x y
  -- a call's own 28 and 24 only where the tables are full
  pub create-full : (t : Tables) (m : ℕ) (p : Path) → First 28 (call_checks t (create m p)) → NODES ≤ length t.nodes
  pub mkdir-full : (t : Tables) (m : ℕ) (p : Path) → First 28 (call_checks t (mkdir m p)) → NODES ≤ length t.nodes
  pub open_full : (t : Tables) (r : ℕ) (p : Path) → First 24 (call_checks t (open_as r p))
      → OPEN_FILES ≤ length t.opens
  -- in every layout an image is read exactly where sound tables print as it
  pub images : (y : Layout) (s : List ℕ) (i : Image) → Bytes s
      → (parse y s ≡ some i) ↔ ((sound y.id_bytes i ≡ true) × Shaped i × (print y i ≡ s))

pub demand-2 : Demand2
demand-2 =
    let c = delivered in
    let S = digest_store delivered in
    record {
      refused_exactly = step_refused_exactly c S;
      refused_same = refused_unchanged c S;
      gives_up_lem = given_up c S;
      stops_exactly = stopped_exactly c S;
      for_good = after_stop c S;
      done_changes = only_done_changes c S;
      finishes = finished c S;
      adds = added c S;
      deletes = deleted c S;
      asks = requested c S;
      reads-move = read_moves c S;
      writes-move = write_moves c S;
      writes_partly = λ s h d a b i ws w fs r x y. guard_partial_write c h d a b i ws w fs r x y s;
      create-full = create-is-full;
      mkdir-full = mkdir-is-full;
      open_full = open-is-full;
      images = parse_exactly;
    }
