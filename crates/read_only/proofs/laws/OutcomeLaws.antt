-- What a read-only run comes to follows from what the events that it takes come to: a refused call tells only whether
-- the guard has stopped and whether a request is pending, and both are seen from outside. So where two runs agree on
-- what is taken, they agree on every outcome.
--   Phase           whether it has stopped, and whether nothing is pending
--   phase_after      the phase after an event, by its answer
--   merged          every outcome, by those of the events that are taken
-- Assumes nothing.
use Rattle.std.specs.Prelude.{◌≡◌, Bool, true, false, not, ◌||◌, ℕ, suc, ◌+◌, ◌*◌, ltb, leb}
use Rattle.std.proofs.Math.Path.{refl, ap, sym}
use Rattle.std.proofs.Common.{ap₂, ◌∙◌, subst, true≢false}
use Rattle.std.proofs.lemmas.Bool.{false≢true}
use mathlib.Core.List.{List, [], ◌∷◌}
use Rattle.std.proofs.Math.Dec.{eqb}
use Rattle.lists.specs.Pick.{pick, pick_true, pick-false, pick_ind}
use Rattle.lists.specs.Equal.{Is, is_t, is_f, is}
use Rattle.lists.specs.All.{All, both, none}
use Rattle.lists.specs.Checks.{Check, First, decide, decide-map, decide_passed, decide_ind}
use Rattle.rules.specs.Pages.{Change, first, last, fetches, cuts}
use Rattle.rules.specs.Calls.{read_call}
use Rattle.rules.specs.Skeleton.{Config, Event, call, reply, save, load, Answer, done, ask, refused, stopped, Outcome}
use Rattle.rules.specs.Skeleton.{plain, Skeleton, answer_length, request_length}
use Rattle.rules.specs.Rules.{Move, refuse, halt, send, finish, add, delete, remap, read_page, begin, fill_page, stored}
use Rattle.rules.specs.Rules.{cut_done, keep_pages, give_up, saving, loading, is_idle, is_none, call_or}
use Rattle.rules.specs.Rules.{event_checks, event_action, judge}
use Rattle.rules.specs.Rules.{gives_up}
use Rattle.rules.proofs.Outcomes.{Acts, first-has, action_acts, gives_up_exactly}
use Rattle.machine.specs.Machine.{Store, State, Result, content_at, size_at, cleared, read_on, finish_change, pages_stored}
use Rattle.machine.specs.Machine.{ask_store, on_page, pages_from, apply, step, outcomes}
use Rattle.machine.specs.Claim.{is_stop, NoStop}
use Rattle.read_only.specs.ReadOnly.{length_checks, takes, taken, form_checks, refusal, read_only_step}
use Rattle.read_only.specs.ReadOnly.{read_only_outcomes}
use Rattle.read_only.proofs.laws.StepLaws.{as_guard, not_taken, call-barred}

pub record Phase : Type 0 where
  pub stopped : Bool
  pub idle : Bool

abbrev pub phase_of : Skeleton → Phase
phase_of sk = record { stopped = sk.stopped; idle = is_idle sk.pending }

-- a refusal leaves it, but for 28 to a reply, which ends the call
unfoldable left_by : Phase → Event → (number : ℕ) → Phase
left_by f (call s a q) n = f
left_by f (reply r a q) n = pick (eqb n 28) (record { stopped = false; idle = true }) f
left_by f (save m) n = f
left_by f (load v i d) n = f

unfoldable phase_after : Phase → Event → Answer → Phase
phase_after f e (done n b) = record { stopped = false; idle = true }
phase_after f e (ask q) = record { stopped = false; idle = false }
phase_after f e (refused n) = left_by f e n
phase_after f e (stopped n) = record { stopped = true; idle = true }

module _ (c : Config) (S : Store) where
  abbrev Follows : Phase → Event → Result S → Type 0
  Follows f e r = phase_of r.state.skeleton ≡ phase_after f e r.outcome.answer

  pages_follow : (f : Phase) (e : Event) (s : State S) (k o : ℕ) (q : Change) (i : ℕ)
      → Follows f e (pages_from c S s k o q i)
  unfolding pages_from on_page ask_store pages_stored finish_change phase_after is_idle
  pages_follow f e s k o q i =
      pick_ind (Follows f e) (ltb i (last q))
      (λ _. pick_ind (Follows f e) (fetches q (size_at c S s k) i) (λ _. refl) (λ _. refl))
      (λ _. pick_ind (Follows f e) (cuts q) (λ _. refl) (λ _. refl))

  -- a call is given up at a reply alone
  abbrev GivenUp : Event → Type 0
  GivenUp e = (f : Phase) → left_by f e 28 ≡ record { stopped = false; idle = true }

  move_follows : (f : Phase) (e : Event) (s : State S) (m : Move) → Acts true m → (m ≡ give_up → GivenUp e)
      → Follows f e (apply c S s m)
  unfolding apply read_on ask_store finish_change phase_after is_idle
  move_follows f e s (refuse n) a g = absurd a
  move_follows f e s (halt n) a g = refl
  move_follows f e s (send p q) a g = λ i. record { stopped = false; idle = a i }
  move_follows f e s (finish t n b) a g = refl
  move_follows f e s (add n) a g = refl
  move_follows f e s (delete k) a g = refl
  move_follows f e s (remap x) a g = refl
  move_follows f e s (read_page k o p n i r) a g =
      pick_ind (Follows f e) (S.is_page (content_at c S s k) i r)
      (λ _. pick_ind (Follows f e) (leb (p + n) (i * 1024 + 1024)) (λ _. refl) (λ _. refl)) (λ _. refl)
  move_follows f e s (begin k o q) a g = pages_follow f e (cleared c S s) k o q (first q)
  move_follows f e s (fill_page k o q i r) a g =
      pick_ind (Follows f e) (S.is_page (content_at c S s k) i r) (λ _. refl) (λ _. refl)
  move_follows f e s (stored k o q i) a g = pages_follow f e s k o q (suc i)
  move_follows f e s (cut_done k o q) a g = refl
  move_follows f e s (keep_pages k o q i) a g = refl
  move_follows f e s give_up a g = sym (g refl f)
  move_follows f e s saving a g = refl
  move_follows f e s (loading i d) a g = refl

  -- a number of a reply's list is not 28
  refusal_follows : (s : State S) (e : Event) (n : ℕ) → First n (event_checks c s.skeleton e)
      → left_by (phase_of s.skeleton) e n ≡ phase_of s.skeleton
  unfolding event_checks left_by
  refusal_follows s (call b a q) n f = refl
  refusal_follows s (reply r a q) n f =
      pick-false _ _ _ (first-has {F = λ ch. eqb ch.0 28 ≡ false} (both refl (both refl (both refl none))) f)
  refusal_follows s (save m) n f = refl
  refusal_follows s (load v i d) n f = refl

  gives_up-at : (sk : Skeleton) (e : Event) → gives_up c sk e ≡ true → GivenUp e
  unfolding gives_up left_by pick
  gives_up-at sk (call b a q) h f = absurd (false≢true h)
  gives_up-at sk (reply r a q) h f = refl
  gives_up-at sk (save n) h f = absurd (false≢true h)
  gives_up-at sk (load v i d) h f = absurd (false≢true h)

  step_follows : (s : State S) (e : Event) → Follows (phase_of s.skeleton) e (step c S s e)
  unfolding step judge
  step_follows s e =
      let f = phase_of s.skeleton in
      let cs = event_checks c s.skeleton e in
      decide_ind refuse (λ m. Follows f e (apply c S s m)) cs (event_action c s.skeleton e)
      (λ n h. unfold apply phase_after in sym (refusal_follows s e n h))
      (λ p. move_follows f e s (event_action c s.skeleton e) (action_acts c s.skeleton e p)
      (λ g. gives_up-at s.skeleton e ((gives_up_exactly c s.skeleton e).0 (decide_passed refuse cs _ p ∙ g)).1))

-- a call that is not taken
module _ (c : Config) where
  abbrev phase_checks : Phase → List ℕ → (answer request : ℕ) → List Check
  phase_checks f s a q =
      (5, f.stopped) ∷ (114, not f.idle) ∷ (34, ltb a (answer_length c) || ltb q (request_length c))
      ∷ (22, is_none (read_call c.width s)) ∷ length_checks (call_or (read_call c.width s))

  unfoldable refused_as : Phase → Event → Outcome
  refused_as f (call s a q) = decide (λ n. plain (refused n)) (phase_checks f s a q) (plain (refused 30))
  refused_as f (reply r a q) = plain (refused 30)
  refused_as f (save n) = plain (refused 30)
  refused_as f (load v i d) = plain (refused 30)

  refused_as_lem : (S : Store) (s : State S) (e : Event) → takes c e ≡ false
      → (read_only_step c S s e).outcome ≡ refused_as (phase_of s.skeleton) e
  unfolding takes refused_as form_checks
  refused_as_lem S s (call b a q) h =
      ap (λ r. r.outcome) (call-barred c S s b a q h)
      ∙ decide-map (refusal c S s) (λ r. r.outcome) (form_checks c s.skeleton b a q) (refusal c S s 30)
  refused_as_lem S s (reply r a q) h = absurd (true≢false h)
  refused_as_lem S s (save n) h = absurd (true≢false h)
  refused_as_lem S s (load v i d) h = absurd (true≢false h)

  unfoldable merged : Phase → List Event → List Outcome → List Outcome
  merged f [] os = []
  merged f (e ∷ es) [] = pick (takes c e) [] (refused_as f e ∷ merged f es [])
  merged f (e ∷ es) (o ∷ os) =
      pick (takes c e) (o ∷ merged (phase_after f e o.answer) es os) (refused_as f e ∷ merged f es (o ∷ os))

  merged-taken : (f : Phase) (e : Event) (es : List Event) (o : Outcome) (os : List Outcome) → takes c e ≡ true
      → merged f (e ∷ es) (o ∷ os) ≡ o ∷ merged (phase_after f e o.answer) es os
  unfolding merged
  merged-taken f e es o os h = pick_true _ _ _ h

  merged_refused : (f : Phase) (e : Event) (es : List Event) (os : List Outcome) → takes c e ≡ false
      → merged f (e ∷ es) os ≡ refused_as f e ∷ merged f es os
  unfolding merged
  merged_refused f e es [] h = pick-false _ _ _ h
  merged_refused f e es (o ∷ os) h = pick-false _ _ _ h

  -- every outcome, by those of what is taken
  shows_merged : (S : Store) (s : State S) (es : List Event)
      → read_only_outcomes c S s es ≡ merged (phase_of s.skeleton) es (outcomes c S s (taken c es))
  unfolding read_only_outcomes outcomes taken merged
  shows_merged S s [] = refl
  shows_merged S s (e ∷ es) = go (shows_merged S (step c S s e).state es) (shows_merged S s es) (is (takes c e))
    where
      f : Phase
      f = phase_of s.skeleton

      here : Result S
      here = step c S s e

      go : read_only_outcomes c S here.state es
          ≡ merged (phase_of here.state.skeleton) es (outcomes c S here.state (taken c es))
          → read_only_outcomes c S s es ≡ merged f es (outcomes c S s (taken c es)) → Is (takes c e)
          → (read_only_step c S s e).outcome ∷ read_only_outcomes c S (read_only_step c S s e).state es
          ≡ merged f (e ∷ es) (outcomes c S s (pick (takes c e) (e ∷ taken c es) (taken c es)))
      go x y (is_t h) =
          ap (λ (r : Result S). r.outcome ∷ read_only_outcomes c S r.state es) (as_guard c S s e h)
          ∙ ap (λ os. here.outcome ∷ os)
          (x ∙ ap (λ g. merged g es (outcomes c S here.state (taken c es))) (step_follows c S s e))
          ∙ sym (merged-taken f e es here.outcome (outcomes c S here.state (taken c es)) h)
          ∙ sym (ap (λ l. merged f (e ∷ es) (outcomes c S s l)) (pick_true (takes c e) (e ∷ taken c es) (taken c es) h))
      go x y (is_f h) =
          ap₂ (λ o t. o ∷ read_only_outcomes c S t es) (refused_as_lem S s e h) (not_taken c S s e h)
          ∙ ap (λ os. refused_as f e ∷ os) y
          ∙ sym (merged_refused f e es (outcomes c S s (taken c es)) h)
          ∙ sym (ap (λ l. merged f (e ∷ es) (outcomes c S s l))
          (pick-false (takes c e) (e ∷ taken c es) (taken c es) h))

  -- so two runs that agree on what is taken agree on everything
  pub all_same : (S T : Store) (s : State S) (t : State T) (es : List Event) → phase_of s.skeleton
      ≡ phase_of t.skeleton
      → outcomes c S s (taken c es) ≡ outcomes c T t (taken c es) → read_only_outcomes c S s es
      ≡ read_only_outcomes c T t es
  all_same S T s t es p q =
      shows_merged S s es ∙ ap₂ (λ f os. merged f es os) p q ∙ sym (shows_merged T t es)

  refused_no_stop : (f : Phase) (e : Event) → NoStop (refused_as f e)
  unfolding refused_as is_stop
  refused_no_stop f (call b a q) =
      decide_ind (λ n. plain (refused n)) NoStop (phase_checks f b a q) (plain (refused 30)) (λ _ _. refl) (λ _. refl)
  refused_no_stop f (reply r a q) = refl
  refused_no_stop f (save n) = refl
  refused_no_stop f (load v i d) = refl

  merged_no_stop : (f : Phase) (es : List Event) (os : List Outcome) → All NoStop os → All NoStop (merged f es os)
  unfolding merged
  merged_no_stop f [] os a = none
  merged_no_stop f (e ∷ es) [] a =
      pick_ind (All NoStop) (takes c e) (λ _. none) (λ _. both (refused_no_stop f e) (merged_no_stop f es [] none))
  merged_no_stop f (e ∷ es) (o ∷ os) (both x a) =
      pick_ind (All NoStop) (takes c e) (λ _. both x (merged_no_stop (phase_after f e o.answer) es os a))
      (λ _. both (refused_no_stop f e) (merged_no_stop f es (o ∷ os) (both x a)))

  -- and where nothing that is taken stops, nothing does
  pub all_no_stop : (S : Store) (s : State S) (es : List Event) → All NoStop (outcomes c S s (taken c es))
      → All NoStop (read_only_outcomes c S s es)
  all_no_stop S s es a =
      subst (All NoStop) (sym (shows_merged S s es)) (merged_no_stop (phase_of s.skeleton) es _ a)
