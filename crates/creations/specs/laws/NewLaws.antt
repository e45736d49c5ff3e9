-- Create and mkdir as they begin: where the new name stands, its directory, and what the machine makes of the call.
-- Assumes nothing.
use Rattle.std.proofs.Math.Path.{◌≡◌, refl, ap, ap₂, subst}
use Rattle.std.proofs.Common.{sym, ◌∙◌, true≢false, arith}
use Rattle.std.specs.Prelude.{false, not, ℕ, zero, suc, ◌-◌, ◌<◌, ◌≤◌}
use mathlib.Core.List.{List, [], ◌∷◌}
use Rattle.std.proofs.Math.Option.{some}
use Rattle.std.proofs.Math.ListN.{length, drop}
use Rattle.std.proofs.lemmas.Bool.{lt-leb}
use Rattle.lists.specs.Pick.{pick}
use Rattle.lists.specs.Equal.{or_fst}
use Rattle.lists.specs.All.{both, all_left, all_right, all_tail}
use Rattle.lists.specs.Checks.{Check, Passed}
use Rattle.filesystem.specs.Tables.{NAME_BYTES, PATH_BYTES, Tables, node_at}
use Rattle.filesystem.specs.Paths.{Path, read_path, path_bytes, too_long, walk, parent_of, last_of}
use Rattle.filesystem.specs.PathLaws.{read_path-was-bytes, parent_place}
use Rattle.rules.specs.Calls.{create, call_bytes}
use Rattle.rules.specs.Requests.{asked, creating}
use Rattle.rules.specs.Skeleton.{Config, at_front}
use Rattle.rules.specs.Rules.{Move, refuse, send, call_checks, call_action, new_checks, reach_parent}
use Rattle.rules.proofs.Lengths.{path_short}
use Rattle.machine.specs.Machine.{State, guard as digest_store}
use Rattle.paths.specs.laws.FormAnswers.{read_components}
use Rattle.paths.specs.laws.WalkAnswers.{last-start}
use Rattle.refusals.specs.Numbers.{Judged, number_of}
use Rattle.refusals.specs.declared.Refusal.{Refusal}
use Rattle.creations.specs.NameChecks.{new_at}
use Rattle.paths.specs.declared.Place.{Place}
use Rattle.std.specs.Prelude.{Ok, Err}
use Rattle.path_calls.specs.Judged.{judged, place_for}
use Rattle.call_reader.specs.Meaning.{made_by}
use Rattle.requests.specs.PathRequests.{has_number, path_request}
use Rattle.guard_state.specs.State.{state_of, gathered_none}
use Rattle.guard_state.specs.Waits.{waits}
use Rattle.outcomes.specs.declared.Outcome.{Outcome}
use Rattle.outcomes.specs.declared.Outcome.TheVariants.{Ask, Refused}
use Rattle.outcomes.specs.Sent.{Sends}
use Rattle.outcomes.specs.laws.SentLaws.{refusal_sends, request_sends}
use Rattle.path_calls.specs.Begun.{begun}
use Rattle.path_calls.specs.laws.BegunLaws.{both-judged}
use Rattle.path_calls.specs.laws.ReachedLaws.{last-short}

-- the kinds of a new node: 1 a file, 2 a directory
pub data NewKind : ℕ → Type 0 where
  is_create : NewKind 1
  is_mkdir : NewKind 2

pub new_kind : (k : ℕ) → 1 ≤ k → k ≤ 2 → NewKind k
new_kind zero h l = absurd (omega arith)
new_kind (suc zero) h l = is_create
new_kind (suc (suc zero)) h l = is_mkdir
new_kind (suc (suc (suc k))) h l = absurd (omega arith)

module _ (t : Tables) (w n : ℕ) (p : Path) where
  sends_new : {k : ℕ} → NewKind k
      → call_action t w (made_by k n p) ≡ send (asked (creating (node_at t.nodes (parent_of t.nodes 0 p)).id k n
      (last_of p))) (path_request k n (path_bytes p))
  unfolding call_action made_by path_request has_number call_bytes pick
  sends_new is_create = refl
  sends_new is_mkdir = refl

  checks_new : {k : ℕ} → NewKind k → call_checks t (made_by k n p) ≡ new_checks t p
  unfolding call_checks made_by pick
  checks_new is_create = refl
  checks_new is_mkdir = refl

pub place_made : (t : Tables) (s : List ℕ) (n : ℕ) {k : ℕ} → NewKind k → place_for t s (create n) ≡ place_for t s
    (made_by k n)
unfolding place_for made_by call_checks pick
place_made t s n is_create = refl
place_made t s n is_mkdir = refl

abbrev parent_in : Judged Place → ℕ
parent_in (Ok p) = p.parent
parent_in (Err b) = 0

abbrev start_in : Judged Place → ℕ
start_in (Ok p) = p.start
start_in (Err b) = 0

head_false : {ch : Check} {cs : List Check} → Passed (ch ∷ cs) → ch.1 ≡ false
head_false (both e _) = e

module _ (path : List ℕ) (kind number : ℕ) (new : NewKind kind) where
  -- the path that was read, where the call passes
  record Passes (t : Tables) (w d at : ℕ) (m : Move) : Type 0 where
    its : Path
    reads : read_path path ≡ some its
    passed : Passed (new_checks t its)
    leads : parent_of t.nodes 0 its ≡ d
    starts : length path - length (last_of its) ≡ at
    moves : m ≡ call_action t w (made_by kind number its)

  record Says (t : Tables) (w : ℕ) (r : Judged Place) (m : Move) : Type 0 where
    refuses : (n : ℕ) → r ≡ Err n → m ≡ refuse n
    passes : (d at : ℕ) → r ≡ new_at d at → Passes t w d at m

  says : (t : Tables) (w : ℕ)
      → Says t w (place_for t path (made_by kind number)) (judged refuse (λ p. call_checks t (made_by kind number p))
      (λ p. call_action t w (made_by kind number p)) path)
  unfolding place_for
  says t w =
      both-judged (Says t w) Err refuse
      (λ n. record {
        refuses = λ k e. let z : n ≡ k = cc in ap refuse z;
        passes = λ d at e. absurd (let z : ◌≡◌ {A = ℕ} 0 1 = cc in omega arith);
      })
      (λ p. call_checks t (made_by kind number p)) (λ p. new_at (parent_of t.nodes 0 p)
      (length path - length (last_of p)))
      (λ p. call_action t w (made_by kind number p)) path
      (λ p e h. record {
        refuses = λ n q. absurd (let z : ◌≡◌ {A = ℕ} 0 1 = cc in omega arith);
        passes = λ d at q. record {
          its = p;
          reads = e;
          passed = subst Passed (checks_new t w number p new) h;
          leads = ap parent_in q;
          starts = ap start_in q;
          moves = refl;
        };
      })

  -- what is known of a call that passes: its directory is there, the new name stands at the path's end, and neither is
  -- too long
  pub record Named (t : Tables) (d at : ℕ) : Type 0 where
    pub within : d < length t.nodes
    pub start : at ≤ length path
    pub short : length path ≤ PATH_BYTES
    pub name-short : length (drop at path) ≤ NAME_BYTES

  its-name : (t : Tables) (w d at : ℕ) (m : Move) → 0 < length t.nodes → (p : Passes t w d at m)
      → (drop at path ≡ last_of p.its) × (d < length t.nodes)
  its-name t w d at m h p = go p.its p.reads p.passed p.leads p.starts
    where
      go : (q : Path) → read_path path ≡ some q → Passed (new_checks t q) → parent_of t.nodes 0 q ≡ d
          → length path - length (last_of q) ≡ at
          → (drop at path ≡ last_of q) × (d < length t.nodes)
      go [] r a l s =
          let e = head_false (all_right (reach_parent t []) _ a) in
          absurd (true≢false (sym (ap not (lt-leb (length t.nodes) (walk t.nodes 0 []) (unfold walk in h))) ∙ e))
      go (x ∷ cs) r a l s =
          let b = all_tail (all_left (reach_parent t (x ∷ cs)) _ a) in (
            ap (λ i. drop i path) (sym s) ∙ last-start path x cs (read_components path (x ∷ cs) r),
            subst (λ i. i < length t.nodes) l (parent_place t.nodes 0 x cs b h).0,
          )

  long_false : (t : Tables) (p : Path) → Passed (new_checks t p) → too_long p ≡ false
  long_false t p a = head_false (all_left (reach_parent t p) _ a)

  pub new-named : (t : Tables) (r : Judged Place) (d at : ℕ) → r ≡ place_for t path (made_by kind number)
      → r ≡ new_at d at
      → 0 < length t.nodes → Named t d at
  unfolding too_long
  new-named t r d at e f h =
      let p = (says t 0).passes d at (sym e ∙ f) in
      let n = its-name t 0 d at _ h p in
      let l = long_false t p.its p.passed in
      record {
        within = n.1;
        start = let s = p.starts in omega arith;
        short = subst (λ (s : List ℕ). length s ≤ PATH_BYTES) (sym (read_path-was-bytes path p.its p.reads).0)
            (path_short p.its l);
        name-short = subst (λ (s : List ℕ). length s ≤ NAME_BYTES) (sym n.0) (last-short p.its (or_fst _ _ l));
      }

  module _ (c : Config) (s : State (digest_store c)) where
    abbrev here : Tables
    here = s.skeleton.tables

    pub new_refused : (b : Refusal) (m q : List ℕ) → Err (number_of b) ≡ place_for here path (made_by kind number)
        → state_of c m ≡ s
        → Sends c (begun c s path (made_by kind number)) (Refused b) m q q
    unfolding begun
    new_refused b m q e g = refusal_sends c s _ b m q ((says here c.width).refuses (number_of b) (sym e)) g

    pub new_sends : (r : Judged Place) (d at : ℕ) (m q q' : List ℕ) (o : Outcome) → 0 < length here.nodes
        → r ≡ place_for here path (made_by kind number)
        → r ≡ new_at d at
        → state_of c m ≡ waits c s (asked (creating (node_at here.nodes d).id kind number (drop at path)))
        gathered_none → q' ≡ at_front (path_request kind number path) q
        → o ≡ Ask (length (path_request kind number path)) → length (path_request kind number path) ≤ length q
        → Sends c (begun c s path (made_by kind number)) o m q q'
    unfolding begun
    new_sends r d at m q q' o y e f g u v h =
        let p = (says here c.width).passes d at (sym e ∙ f) in
        let n = (its-name here c.width d at _ y p).0 in
        let z = p.moves ∙ sends_new here c.width number p.its new
        ∙ ap₂ (λ (i : ℕ) (x : List ℕ). send (asked (creating (node_at here.nodes i).id kind number x))
        (path_request kind number (path_bytes p.its))) p.leads (sym n)
        ∙ ap (λ (b : List ℕ). send (asked (creating (node_at here.nodes d).id kind number (drop at path)))
        (path_request kind number b)) (sym (read_path-was-bytes path p.its p.reads).0) in
        request_sends c s _ _ (path_request kind number path) m q q' o z g u v h
