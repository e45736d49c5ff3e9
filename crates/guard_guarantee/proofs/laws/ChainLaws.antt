-- The claims of specs/Chains.antt, proved: each link is a step of the machine, so a chain is a run of it.
-- Assumes nothing.
use Rattle.std.specs.Prelude.{◌≡◌, ◌⊎◌, Bool, ℕ, length}
use Rattle.std.proofs.Math.Path.{refl, ap, sym}
use Rattle.std.proofs.Common.{ap₂, ◌∙◌, subst, arith}
use Rattle.std.proofs.Math.Bool.{true, false}
use mathlib.Core.List.{List, [], ◌∷◌, ◌++◌, map, append-nil}
use Rattle.lists.specs.Pick.{pick, pick_true}
use Rattle.lists.specs.Equal.{Is, is_t, is_f, is}
use Rattle.lists.specs.All.{All, both, none, all_head}
use Rattle.lists.specs.Or.{Or, ok, ◌>>=◌}
use Rattle.lists.specs.Checks.{decide_ind}
use Rattle.lists.specs.PartLaws.{overwrite_all}
use Rattle.filesystem.specs.Tables.{DIGEST_BYTES}
use Rattle.digest.specs.Sha256.{sha256}
use Rattle.filesystem.specs.Image.{current}
use Rattle.rules.specs.Skeleton.{Event, Buffers, call, save, load, EventBytes, Answer, done, plain, at_front}
use Rattle.configuration.specs.Delivered.{delivered}
use Rattle.machine.specs.Machine.{outcomes, final, fresh, guard as digest_store}
use Rattle.machine.specs.Consistent.{Consistent}
use Rattle.machine.specs.History.{Collision}
use Rattle.machine.specs.Seen.{Seen, events, answers, pages_seen, images_seen}
use Rattle.machine.proofs.SeenLaws.{NoSave, no_save_bare, save_ind}
use Rattle.machine.specs.Restart.{Restarts, pages_of_lives, images_of_lives, LoadsOfLives, HonestLives, BytesSeen, Quiet}
use Rattle.machine.specs.Restart.{restarted}
use Rattle.read_only.specs.ReadOnly.{takes, read_only_checks, refusal, read_only_step, read_only_outcomes, read_only_final}
use Rattle.read_only.specs.Lives.{Life as LifeSeen, step_as, outcomes_of, final_of, taken_seen, all_kept, OfFresh, tree_left}
use Rattle.read_only.specs.Lives.{AgreeLives as SameLives, FirstHalfOfLives as FirstOfMachine}
use Rattle.read_only.specs.Lives.{SecondHalfOfLives as SecondOfMachine}
use Rattle.read_only.proofs.laws.StepLaws.{as_guard, not_taken}
use Rattle.read_only.proofs.laws.LifeLaws.{first-outcome, first-left, step_either, taken-bytes, saves_as_loaded}
use Rattle.guard_guarantee.specs.Guarantee.{delivered_fit, agreement_with_readers, no_stop_with_readers}
use Rattle.outcomes.specs.declared.Outcome.{Outcome}
use Rattle.outcomes.specs.declared.Outcome.TheVariants.{Done, Ask, Refused, Stopped}
use Rattle.outcomes.specs.Values.{kind_of, value_of, length_of, answer_in}
use Rattle.guard.specs.declared.GuardOutcome.{GuardOutcome}
use Rattle.guard.specs.Promise.{GuardState, GuardResult, Kept, held, stepped, buffers, Promise, reader_step_of}
use Rattle.guard.specs.Promise.{ReaderPromise, SavePromise, LoadPromise, shown_as, Shown}
use Rattle.guard.specs.laws.KeptLaws.{kept_ready, fresh_kept, step_kept}
use Rattle.guard_guarantee.specs.Chains.{read_as, answer_read, seen_as, seen_saved, digest_seen, Link, called}
use Rattle.guard_guarantee.specs.Chains.{reader_called, replied, saved, loaded, Chain, end, next, Life, life_seen}
use Rattle.guard_guarantee.specs.Chains.{kept_seen, Tree, fresh_tree, Agrees, FirstHalf, SecondHalf, all_seen}
use Rattle.guard_guarantee.specs.Chains.{AgreeLives, FirstHalfOfLives, SecondHalfOfLives, ReadOnlyClaim}

-- what C reads is the code's outcome
reads-shown : (o : Outcome) (a q : List ℕ) → answer_read (shown_as o) a q ≡ answer_in o a q
unfolding answer_read read_as shown_as kind_of value_of length_of answer_in
reads-shown (Done n l) a q = refl
reads-shown (Ask l) a q = refl
reads-shown (Refused n) a q = refl
reads-shown (Stopped n) a q = refl

reads : {P : Outcome → Type 0} {r : GuardOutcome} (h : Shown P r) (a q : List ℕ)
    → answer_read r a q ≡ answer_in h.outcome a q
reads h a q = ap (λ g. answer_read g a q) h.shown ∙ reads-shown h.outcome a q

-- what either guard's machine makes of an event
abbrev step_for : Bool → List ℕ → Event → GuardResult
step_for b m e = step_as delivered b (digest_store delivered) (held m) e

-- a link is a step of the machine
record Steps (b : Bool) (m m' : List ℕ) (x : Seen) : Type 0 where
  bytes : EventBytes x.event
  same_length : length m' ≡ length m
  outcome : x.outcome ≡ (step_for b m x.event).outcome
  state : held m' ≡ (step_for b m x.event).state

module _ (m m' : List ℕ) (k : Kept m) where
  -- of an event that both take, it is the guard's
  for_either : (b : Bool) {x : Seen} → takes delivered x.event ≡ true → Steps false m m' x → Steps b m m' x
  unfolding pick
  for_either b {x = x} h s =
      let e = sym (step_either delivered b (digest_store delivered) (held m) x.event h) in
      record {
        bytes = s.bytes;
        same_length = s.same_length;
        outcome = s.outcome ∙ ap (λ r. r.outcome) e;
        state = s.state ∙ ap (λ r. r.state) e;
      }

  -- of an event that is no save: its answer, and no digest
  without-digest : (e : Event) (a : Answer) → EventBytes e → NoSave e → a ≡ (stepped m e).outcome.answer
      → plain a ≡ (stepped m e).outcome
  without-digest e a b ns q = ap plain q
      ∙ sym (no_save_bare delivered (digest_store delivered) (held m) k.consistent.holds.valid e b ns)

  -- of a save: the digest's bytes are all overwritten, or nothing is
  with-digest : (n : ℕ) (a : Answer) (d d' : List ℕ) → length d ≡ DIGEST_BYTES → a ≡ (stepped m (save n)).outcome.answer
      → d' ≡ at_front (stepped m (save n)).outcome.digest d → record { answer = a; digest = digest_seen a d' } ≡ (stepped
      m (save n)).outcome
  with-digest n a d d' l qa qd =
      (λ i. record { answer = qa i; digest = digest_seen (qa i) (qd i) })
      ∙ save_ind delivered (digest_store delivered)
      (λ o. record { answer = o.answer; digest = digest_seen o.answer (at_front o.digest d) } ≡ o) (held m) n
      (λ k. unfold digest_seen in refl)
      (λ image. unfold digest_seen in ap (λ x. record { answer = done (length image) image; digest = x })
      (overwrite_all d (delivered.digest image) (l ∙ sym (delivered_fit.long image))))

  entry-steps : (e : Event) → NoSave e → (r : GuardOutcome) (b b' : Buffers) → Shown (λ o. Promise m e o m' b b') r
      → Steps false m m' (seen_as e (answer_read r b'.answer b'.request))
  unfolding pick
  entry-steps e ns r b b' h =
      let p = h.promised in
      let t = (p.enters k.long).steps (kept_ready m k e) in
      record {
        bytes = p.bytes;
        same_length = p.own.same_length;
        outcome = without-digest e _ p.bytes ns
            (reads h _ _ ∙ t.answer);
        state = t.state;
      }

  -- what a call of a read-only guard comes to has no digest either
  reader-bare : (s : List ℕ) (a q : ℕ) → EventBytes (call s a q)
      → (reader_step_of (held m) (call s a q)).outcome ≡ plain (reader_step_of (held m) (call s a q)).outcome.answer
  unfolding read_only_step
  reader-bare s a q b =
      decide_ind (refusal delivered (digest_store delivered) (held m))
      (λ (r : GuardResult). r.outcome ≡ plain r.outcome.answer)
      (read_only_checks delivered (held m).skeleton (call s a q))
      (stepped m (call s a q)) (λ _ _. refl)
      (λ _. no_save_bare delivered (digest_store delivered) (held m) k.consistent.holds.valid (call s a q) b tt)

  reader-steps : (s : List ℕ) (a q : ℕ) (r : GuardOutcome) (b b' : Buffers)
      → Shown (λ o. ReaderPromise m (call s a q) o m' b b') r
      → Steps true m m' (seen_as (call s a q) (answer_read r b'.answer b'.request))
  unfolding pick
  reader-steps s a q r b b' h =
      let p = h.promised in
      let t = (p.enters k.long).steps (λ _. kept_ready m k (call s a q)) in
      record {
        bytes = p.bytes;
        same_length = p.own.same_length;
        outcome = ap plain (reads h _ _ ∙ t.answer) ∙ sym (reader-bare s a q p.bytes);
        state = t.state;
      }

  save_steps : (i i' d d' : List ℕ) (r : GuardOutcome) → Shown (λ o. SavePromise m o m' i i' d d') r
      → Steps false m m' (seen_saved (length i) (answer_read r i' []) d')
  unfolding pick
  save_steps i i' d d' r h =
      let p = h.promised in
      let t = p.saves k.long (kept_ready m k (save (length i))) in
      record {
        bytes = unfold EventBytes in tt;
        same_length = p.own.same_length;
        outcome = with-digest _ _ d d' p.room (reads h i' [] ∙ t.steps.answer) t.digest;
        state = t.steps.state;
      }

  load-steps : (i d : List ℕ) (r : GuardOutcome) → Shown (λ o. LoadPromise m i d o m') r
      → Steps false m m' (seen_as (load current i d) (answer_read r [] []))
  unfolding pick
  load-steps i d r h =
      let p = h.promised in
      let t = p.loads k.long in
      record {
        bytes = p.bytes;
        same_length = p.own.same_length;
        outcome = without-digest _ _ p.bytes tt (reads h [] [] ∙ t.answer);
        state = t.state;
      }

  link_steps : {b : Bool} {x : Seen} → Link m m' b x → Steps b m m' x
  unfolding takes
  link_steps (called s a q a' q' r h) = entry-steps _ tt r (buffers a q) (buffers a' q') h
  link_steps (reader_called s a q a' q' r h) = reader-steps s (length a) (length q) r (buffers a q) (buffers a' q') h
  link_steps (replied {b = b} s a q a' q' r h) = for_either b refl (entry-steps _ tt r (buffers a q) (buffers a' q') h)
  link_steps (saved {b = b} i i' d d' r h) = for_either b refl (save_steps i i' d d' r h)
  link_steps (loaded {b = b} i d r h) = for_either b refl (load-steps i d r h)

  -- a call that is not taken leaves the state, so it is still a guard's
  same_kept : length m' ≡ length m → held m' ≡ held m → Kept m'
  same_kept l e = record {
    long = omega (arith, l, k.long);
    consistent = subst (Consistent delivered) (sym e)
        k.consistent;
  }

  reader-kept : (e : Event) → EventBytes e → length m' ≡ length m → held m' ≡ (reader_step_of (held m) e).state → Kept m'
  reader-kept e bs l q = go (is (takes delivered e))
    where
      go : Is (takes delivered e) → Kept m'
      go (is_t h) = step_kept m m' e bs k l
          (q ∙ ap (λ r. r.state) (as_guard delivered (digest_store delivered) (held m) e h))
      go (is_f h) = same_kept l (q ∙ not_taken delivered (digest_store delivered) (held m) e h)

  steps-kept : (b : Bool) {x : Seen} → Steps b m m' x → Kept m'
  unfolding pick
  steps-kept true {x = x} s = reader-kept x.event s.bytes s.same_length s.state
  steps-kept false {x = x} s = step_kept m m' x.event s.bytes k s.same_length s.state

-- a chain is a run of the machine
record Runs (b : Bool) (m : List ℕ) (xs : List Seen) (n : List ℕ) : Type 0 where
  bytes : BytesSeen xs
  same : answers xs ≡ outcomes_of delivered b (digest_store delivered) (held m) (events xs)
  left : held n ≡ final_of delivered b (digest_store delivered) (held m) (events xs)

no-events : (b : Bool) (m : List ℕ) → Runs b m [] m
unfolding pick outcomes final read_only_outcomes read_only_final
no-events true m = record { bytes = none; same = refl; left = refl }
no-events false m = record { bytes = none; same = refl; left = refl }

chain_runs : (b : Bool) {m n : List ℕ} {xs : List Seen} → Kept m → Chain b m xs n → Runs b m xs n
chain_runs b k (end {m = m}) = no-events b m
chain_runs b k (next {m = m} {m' = m'} {x = x} {xs = xs} l c) =
    let D = digest_store delivered in
    let s = link_steps m m' k l in
    let r = chain_runs b (steps-kept m m' k b s) c in
    record {
      bytes = both s.bytes r.bytes;
      same = ap₂ ◌∷◌ s.outcome (r.same ∙ ap (λ g. outcomes_of delivered b D g (events xs)) s.state)
          ∙ sym (first-outcome delivered b D (held m) x.event (events xs));
      left = r.left ∙ ap (λ g. final_of delivered b D g (events xs)) s.state
          ∙ sym (first-left delivered b D (held m) x.event (events xs));
    }

-- so a life is a run from the fresh guard
module _ (l : Life) where
  abbrev fresh_guard : GuardState
  fresh_guard = fresh delivered (digest_store delivered)

  life-runs : Runs l.read_only l.first l.seen l.last
  life-runs = chain_runs l.read_only
      (fresh_kept l.lent l.made.made.outcome l.first l.long l.made.made.promised) l.chain

  life-bytes : BytesSeen l.seen
  life-bytes = life-runs.bytes

  life-fresh : OfFresh delivered (life_seen l)
  life-fresh = life-runs.same
      ∙ ap (λ g. outcomes_of delivered l.read_only (digest_store delivered) g (events l.seen))
      (l.made.made.promised.state l.long)

  life-left : held l.last ≡ final_of delivered l.read_only (digest_store delivered) fresh_guard (events l.seen)
  life-left = life-runs.left
      ∙ ap (λ g. final_of delivered l.read_only (digest_store delivered) g (events l.seen))
      (l.made.made.promised.state l.long)

all_fresh : (ls : List Life) → All (OfFresh delivered) (map life_seen ls)
all_fresh [] = none
all_fresh (l ∷ ls) = both (life-fresh l) (all_fresh ls)

-- what was taken is bytes, as all is
kept-bytes : (b : Bool) (xs : List Seen) → BytesSeen xs → BytesSeen (pick b (taken_seen delivered xs) xs)
unfolding pick
kept-bytes true xs bs = taken-bytes delivered xs bs
kept-bytes false xs bs = bs

all_bytes : (ls : List Life) → All BytesSeen (all_kept delivered (map life_seen ls))
all_bytes [] = none
all_bytes (l ∷ ls) = both (kept-bytes l.read_only l.seen (life-bytes l)) (all_bytes ls)

all_seen_lem : (ls : List Life) → all_kept delivered (map life_seen ls) ≡ all_seen ls
all_seen_lem [] = refl
all_seen_lem (l ∷ ls) = ap (λ k. kept_seen l ∷ k) (all_seen_lem ls)

memories_agree : (t : Tree) (ls : List Life) → SameLives delivered t (map life_seen ls) → AgreeLives t ls
unfolding SameLives AgreeLives
memories_agree t [] a = tt
memories_agree t (l ∷ ls) (same, left, more) = (
  same,
  life-left l ∙ left,
  memories_agree (tree_left delivered t (life_seen l)) ls more,
)

pub chains_agree : FirstHalfOfLives
unfolding FirstHalfOfLives FirstOfMachine delivered
chains_agree ls st lo =
    let P : List (List Seen) → Type 0 = λ k. Or (Collision sha256 (pages_of_lives delivered fresh_tree k)
    ⊎ Collision sha256 (images_of_lives k)) (AgreeLives fresh_tree ls) in
    subst P (all_seen_lem ls) (do
      a ← agreement_with_readers (map life_seen ls) (all_fresh ls) (all_bytes ls)
          (subst Restarts (sym (all_seen_lem ls)) st) (subst (LoadsOfLives []) (sym (all_seen_lem ls)) lo)
      ok (memories_agree fresh_tree ls a))

quiet_all : (ls : List Life) → All (λ (l : LifeSeen). Quiet l.seen) (map life_seen ls)
    → All (λ (l : Life). Quiet l.seen) ls
quiet_all [] none = none
quiet_all (l ∷ ls) (both q qs) = both q (quiet_all ls qs)

pub chains_never_stop : SecondHalfOfLives
unfolding SecondHalfOfLives SecondOfMachine
chains_never_stop ls st ho =
    let (n, a) = no_stop_with_readers (map life_seen ls) (all_fresh ls) (all_bytes ls)
    (subst Restarts (sym (all_seen_lem ls)) st) (subst (HonestLives delivered fresh_tree) (sym (all_seen_lem ls)) ho) in
    (quiet_all ls n, memories_agree fresh_tree ls a)

-- one life is a list of one
module _ (l : Life) where
  one_agrees : AgreeLives fresh_tree (l ∷ []) → Agrees l
  unfolding AgreeLives restarted
  one_agrees (same, left, _) = record { same = same; left = left }

pub chain_agrees : FirstHalf
unfolding FirstHalf FirstHalfOfLives Restarts LoadsOfLives pages_of_lives images_of_lives restarted
chain_agrees l lo = subst (λ p. Or (Collision sha256 p ⊎ Collision sha256 (images_seen (kept_seen l))) (Agrees l))
    (append-nil (pages_seen delivered fresh_tree (kept_seen l)))
    (subst (λ i. Or (Collision sha256 (pages_seen delivered fresh_tree (kept_seen l) ++ []) ⊎ Collision sha256 i)
    (Agrees l))
    (append-nil (images_seen (kept_seen l))) (do
      a ← chains_agree (l ∷ []) none (lo, tt)
      ok (one_agrees l a)))

pub chain_never_stops : SecondHalf
unfolding SecondHalf SecondHalfOfLives Restarts HonestLives restarted
chain_never_stops l ho = let (n, a) = chains_never_stop (l ∷ []) none (ho, tt) in (all_head n, one_agrees l a)

-- a read-only guard's saves give what it loaded
pub chain_reads_only : ReadOnlyClaim
unfolding ReadOnlyClaim
chain_reads_only l r =
    saves_as_loaded delivered l.seen (life-bytes l)
    (life-fresh l ∙ pick_true l.read_only _ _ r)
