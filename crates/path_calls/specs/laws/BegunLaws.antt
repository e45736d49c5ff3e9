-- What the judging function answers, the memory that waits and the request that was written are what the machine makes
-- of the call.
-- Assumes nothing.
use Rattle.std.proofs.Math.Path.{◌≡◌, refl, ap}
use Rattle.std.proofs.Common.{ap₂, sym, ◌∙◌, subst, arith}
use Rattle.std.specs.Prelude.{true, false, ℕ, ◌+◌, ◌<◌, ◌≤◌, length}
use mathlib.Core.List.{List, [], ◌∷◌}
use Rattle.std.proofs.Math.Option.{Option, some, none as nothing}
use Rattle.lists.specs.Pick.{pick, pick_ind}
use Rattle.lists.specs.All.{both, none, all_left, all_tail}
use Rattle.lists.specs.Checks.{Check, Passed, decide}
use Rattle.filesystem.specs.Tables.{NODES, PATH_BYTES, Tables}
use Rattle.filesystem.specs.Paths.{Path, read_path, path_bytes, walk}
use Rattle.filesystem.specs.PathLaws.{read_path-was-bytes, walk-place}
use Rattle.rules.specs.Calls.{Call}
use Rattle.rules.specs.Requests.{asked}
use Rattle.rules.specs.Skeleton.{Config, at_front}
use Rattle.rules.specs.Rules.{Move, refuse, send, call_checks, call_action, reach}
use Rattle.rules.proofs.Lengths.{path_short}
use Rattle.machine.specs.Machine.{State, guard as digest_store}
use Rattle.refusals.specs.Numbers.{Judged, number_of}
use Rattle.refusals.specs.declared.Refusal.{Refusal}
use Rattle.std.specs.Prelude.{Ok, Err}
use Rattle.path_calls.specs.Judged.{judged, node_for}
use Rattle.requests.specs.PathRequests.{has_number, path_request}
use Rattle.memory.specs.Layout.{mem_of}
use Rattle.tables.specs.View.{tables_in}
use Rattle.tables.specs.laws.RowsInUse.{count-nodes}
use Rattle.guard_state.specs.Calls.{question_on}
use Rattle.path_calls.specs.Begun.{begun, Reaches, WalksFirst, SendsItself}
use Rattle.guard_state.specs.State.{state_of, gathered_none}
use Rattle.guard_state.specs.Waits.{waits}
use Rattle.outcomes.specs.declared.Outcome.{Outcome}
use Rattle.outcomes.specs.declared.Outcome.TheVariants.{Ask, Refused}
use Rattle.outcomes.specs.Sent.{Sends}
use Rattle.outcomes.specs.laws.SentLaws.{refusal_sends, request_sends}

-- two answers by the same checks
module _ {A B : Type 0} (F : A → B → Type 0) (a : ℕ → A) (b : ℕ → B) (stop : (n : ℕ) → F (a n) (b n)) where
  both_decided : (cs : List Check) (x : A) (y : B) → (Passed cs → F x y) → F (decide a cs x) (decide b cs y)
  unfolding decide pick
  both_decided [] x y g = g none
  both_decided ((n, true) ∷ cs) x y g = stop n
  both_decided ((n, false) ∷ cs) x y g = both_decided cs x y (λ p. g (both refl p))

  pub both-judged : (checks : Path → List Check) (x : Path → A) (y : Path → B) (s : List ℕ)
      → ((p : Path) → read_path s ≡ some p → Passed (checks p) → F (x p) (y p))
      → F (judged a checks x s) (judged b checks y s)
  unfolding judged
  both-judged checks x y s g = go (read_path s) refl
    where
      go : (o : Option Path) → read_path s ≡ o
          → F (elim o [ nothing ↦ a 22 | some p ↦ decide a (checks p) (x p) ])
          (elim o [ nothing ↦ b 22 | some p ↦ decide b (checks p) (y p) ])
      go nothing e = stop 22
      go (some p) e = both_decided (checks p) (x p) (y p) (g p e)

pub request_most : (kind number : ℕ) (s : List ℕ) → length (path_request kind number s) ≤ 2 + length s
unfolding path_request
request_most kind number s = pick_ind (λ (l : List ℕ). length l ≤ 2 + length s) (has_number kind) (λ _. omega arith)
    (λ _. omega arith)

module _ (t : Tables) (w : ℕ) (path : List ℕ) (make : Path → Call) where
  abbrev move : Move
  move = judged refuse (λ p. call_checks t (make p)) (λ p. call_action t w (make p)) path

  -- the path that was read, where the call passes
  record Passes (k : ℕ) (m : Move) : Type 0 where
    its : Path
    reads : read_path path ≡ some its
    passed : Passed (call_checks t (make its))
    leads : walk t.nodes 0 its ≡ k
    moves : m ≡ call_action t w (make its)

  record Says (r : Judged ℕ) (m : Move) : Type 0 where
    refuses : (n : ℕ) → r ≡ Err n → m ≡ refuse n
    passes : (k : ℕ) → r ≡ Ok k → Passes k m

  says : Says (node_for t path make) move
  unfolding node_for
  says =
      both-judged Says Err refuse
      (λ n. record {
        refuses = λ k e. let z : n ≡ k = cc in ap refuse z;
        passes = λ k e. absurd
            (let z : ◌≡◌ {A = ℕ} 0 1 = cc in omega arith);
      })
      (λ p. call_checks t (make p)) (λ p. Ok (walk t.nodes 0 p)) (λ p. call_action t w (make p)) path
      (λ p e h. record {
        refuses = λ n q. absurd (let z : ◌≡◌ {A = ℕ} 0 1 = cc in omega arith);
        passes = λ k q. record { its = p; reads = e; passed = h; leads = cc; moves = refl };
      })

pub refused_sends : (c : Config) (s : State (digest_store c)) (path : List ℕ) (make : Path → Call) (b : Refusal)
    (m q : List ℕ)
    → Err (number_of b) ≡ node_for s.skeleton.tables path make
    → state_of c m ≡ s → Sends c (begun c s path make) (Refused b) m q q
unfolding begun
refused_sends c s path make b m q e g = refusal_sends c s _ b m q ((says s.skeleton.tables c.width path
    make).refuses (number_of b) (sym e)) g

module _ (path : List ℕ) (make : Path → Call) (walks : WalksFirst make) where
  -- what is known of a call that passes: its node is there, and its path is not too long
  passes-node : (t : Tables) (r : Judged ℕ) (k : ℕ) → r ≡ node_for t path make → r ≡ Ok k → 0 < length t.nodes
      → (k < length t.nodes) × (length path ≤ PATH_BYTES)
  passes-node t r k e f h =
      let p = (says t 0 path make).passes k (sym e ∙ f) in
      let (cs, q) = walks t p.its in
      let a = all_left (reach t p.its) cs (subst Passed q p.passed) in (
        subst (λ i. i < length t.nodes) p.leads (walk-place t.nodes 0 p.its (all_tail a) h),
        subst (λ (l : List ℕ). length l ≤ PATH_BYTES) (sym (read_path-was-bytes path p.its p.reads).0)
            (short p.its a),
      )
    where
      short : (p : Path) → Passed (reach t p) → length (path_bytes p) ≤ PATH_BYTES
      short p (both e _) = path_short p e

  -- the same over the first n nodes of a memory
  pub reaches : (m : List ℕ) (n o : ℕ) → 0 < n → n ≤ NODES → (w : Judged ℕ)
      → w ≡ node_for (tables_in n o (mem_of m)) path
      make → Reaches w path
  unfolding tables_in
  reaches m n o h l w e k f =
      let c = count-nodes m n l in
      let p = passes-node (tables_in n o (mem_of m)) w k e f (omega arith) in
      (omega (arith, p.0), p.1)

-- a call that passes waits, and its request stands at the front of the buffer
pub node_sends : (c : Config) (s : State (digest_store c)) (path : List ℕ) (make : Path → Call) (call kind number : ℕ)
    → SendsItself call kind number make → (r : Judged ℕ) (k : ℕ) (m q q' : List ℕ) (o : Outcome)
    → r ≡ node_for s.skeleton.tables path make → r ≡ Ok k
    → state_of c m ≡ waits c s (asked (question_on call k number)) gathered_none
    → q' ≡ at_front (path_request kind number path) q
    → o ≡ Ask (length (path_request kind number path)) → length (path_request kind number path) ≤ length q
    → Sends c (begun c s path make) o m q q'
unfolding begun
node_sends c s path make call kind number itself r k m q q' o e f g u v h =
    let t = s.skeleton.tables in
    let p = (says t c.width path make).passes k (sym e ∙ f) in
    let y = (read_path-was-bytes path p.its p.reads).0 in
    let z = p.moves ∙ itself t c.width p.its
    ∙ ap₂ (λ i b. send (asked (question_on call i number)) (path_request kind number b)) p.leads (sym y) in
    request_sends c s _ _ (path_request kind number path) m q q' o z g u v h
