-- The read-only step beside the guard's: on what it takes the same, on any other call the first of 5, 114, 34, 22, 36,
-- else 30, and nothing changes. So a run of it is the guard's run over the events that it takes.
-- Assumes nothing.
use Rattle.std.specs.Prelude.{◌≡◌, true, false, ℕ}
use Rattle.std.proofs.Math.Path.{refl, ap, sym}
use Rattle.std.proofs.Common.{◌∙◌, true≢false}
use Rattle.std.proofs.Math.Bool.{not}
use mathlib.Core.List.{List, [], ◌∷◌, ◌++◌}
use Rattle.lists.specs.Pick.{pick, pick_true, pick-false}
use Rattle.lists.specs.Equal.{Is, is_t, is_f, is}
use Rattle.lists.specs.Checks.{Check, decide, decide-append, decide-map, check_stops, check_last}
use Rattle.filesystem.specs.Tables.{Tables}
use Rattle.filesystem.specs.MemoryMaps.{Map}
use Rattle.rules.specs.Calls.{Call, create, mkdir, open_as, close, seek, read, write, truncate, remove, rmdir, chmod}
use Rattle.rules.specs.Calls.{readdir, stat, map_memory, unmap, read_call, rename}
use Rattle.rules.specs.Skeleton.{Config, Event, call, reply, save, load, Outcome}
use Rattle.rules.specs.Rules.{refuse, call_checks, map_checks, call_or, is_none, stopped_check, busy_check, short_check}
use Rattle.rules.specs.Rules.{event_checks, event_action, judge}
use Rattle.machine.specs.Machine.{Store, State, Result, apply, step, outcomes, final}
use Rattle.read_only.specs.ReadOnly.{takes_call, length_checks, takes, taken, form_checks, read_only_checks, refusal}
use Rattle.read_only.specs.ReadOnly.{read_only_step, read_only_outcomes, read_only_final}

-- checks in front of a list that begins with them
decide_twice : {A : Type 0} (stop : ℕ → A) (cs ds : List Check) (x : A) → decide stop cs (decide stop (cs ++ ds) x)
    ≡ decide stop (cs ++ ds) x
unfolding decide pick
decide_twice stop [] ds x = refl
decide_twice stop ((n, true) ∷ cs) ds x = refl
decide_twice stop ((n, false) ∷ cs) ds x = decide_twice stop cs ds x

-- a call's numbers begin with 36
record Behind (t : Tables) (ms : List Map) (q : Call) : Type 0 where
  more : List Check
  are : call_checks t q ++ map_checks ms q ≡ length_checks q ++ more

behind : (t : Tables) (ms : List Map) (q : Call) → Behind t ms q
unfolding call_checks length_checks
behind t ms (create m p) = record { more = _; are = refl }
behind t ms (mkdir m p) = record { more = _; are = refl }
behind t ms (open_as r p) = record { more = _; are = refl }
behind t ms (close h) = record { more = _; are = refl }
behind t ms (seek h n) = record { more = _; are = refl }
behind t ms (read h n) = record { more = _; are = refl }
behind t ms (write h d) = record { more = _; are = refl }
behind t ms (truncate h n) = record { more = _; are = refl }
behind t ms (remove p) = record { more = _; are = refl }
behind t ms (rmdir p) = record { more = _; are = refl }
behind t ms (chmod m p) = record { more = _; are = refl }
behind t ms (readdir p) = record { more = _; are = refl }
behind t ms (stat p) = record { more = _; are = refl }
behind t ms (map_memory n) = record { more = _; are = refl }
behind t ms (unmap a) = record { more = _; are = refl }
behind t ms (rename p q) = record { more = _; are = refl }

module _ (c : Config) where
  -- what the events that are taken come to, of what all come to
  unfoldable pub taken_of : List Event → List Outcome → List Outcome
  taken_of [] os = []
  taken_of (e ∷ es) [] = []
  taken_of (e ∷ es) (o ∷ os) = pick (takes c e) (o ∷ taken_of es os) (taken_of es os)

module _ (c : Config) (S : Store) where
  module _ (s : State S) (b : List ℕ) (a q : ℕ) where
    abbrev its : Call
    its = call_or (read_call c.width b)

    abbrev form : List Check
    form = form_checks c s.skeleton b a q

    -- the guard's step, which begins with the same numbers
    step-begins : decide (refusal c S s) form (step c S s (call b a q)) ≡ step c S s (call b a q)
    unfolding step judge apply event_checks form_checks
    step-begins =
        let m = behind s.skeleton.tables s.skeleton.maps its in
        let cs = form ++ m.more in
        let same : event_checks c s.skeleton (call b a q) ≡ cs =
        ap (λ l. stopped_check c s.skeleton ∷ busy_check c s.skeleton ∷ short_check c s.skeleton a q ∷
        (22, is_none (read_call c.width b)) ∷ l) m.are in
        let is : step c S s (call b a q)
        ≡ decide (refusal c S s) cs (apply c S s (event_action c s.skeleton (call b a q))) =
        ap (λ l. apply c S s (decide refuse l (event_action c s.skeleton (call b a q)))) same
        ∙ decide-map refuse (apply c S s) cs (event_action c s.skeleton (call b a q)) in
        ap (decide (refusal c S s) form) is ∙ decide_twice (refusal c S s) form m.more _ ∙ sym is

    -- a call that it takes: the guard's own step; any other: the first of 5, 114, 34, 22, 36, else 30
    pub call-taken : takes_call its ≡ true → read_only_step c S s (call b a q) ≡ step c S s (call b a q)
    unfolding read_only_step read_only_checks
    call-taken h =
        decide-append (refusal c S s) form ((30, not (takes_call its)) ∷ []) _
        ∙ ap (decide (refusal c S s) form) (check_last (refusal c S s) 30 (not (takes_call its)) _ (ap not h))
        ∙ step-begins

    pub call-barred : takes_call its ≡ false → read_only_step c S s (call b a q)
        ≡ decide (refusal c S s) form (refusal c S s 30)
    unfolding read_only_step read_only_checks
    call-barred h =
        decide-append (refusal c S s) form ((30, not (takes_call its)) ∷ []) _
        ∙ ap (decide (refusal c S s) form) (check_stops (refusal c S s) 30 (not (takes_call its)) [] _ (ap not h))

    stays : (cs : List Check) → (decide (refusal c S s) cs (refusal c S s 30)).state ≡ s
    unfolding decide pick
    stays [] = refl
    stays ((n, true) ∷ cs) = refl
    stays ((n, false) ∷ cs) = stays cs

    pub barred-stays : takes_call its ≡ false → (read_only_step c S s (call b a q)).state ≡ s
    barred-stays h = ap (λ r. r.state) (call-barred h) ∙ stays form

  -- every event that it takes: replies, saves and loads among them
  pub as_guard : (s : State S) (e : Event) → takes c e ≡ true → read_only_step c S s e ≡ step c S s e
  unfolding takes
  as_guard s (call b a q) h = call-taken s b a q h
  as_guard s (reply r a q) h = unfold read_only_step read_only_checks decide in refl
  as_guard s (save n) h = unfold read_only_step read_only_checks decide in refl
  as_guard s (load v i d) h = unfold read_only_step read_only_checks decide in refl

  pub not_taken : (s : State S) (e : Event) → takes c e ≡ false → (read_only_step c S s e).state ≡ s
  unfolding takes
  not_taken s (call b a q) h = barred-stays s b a q h
  not_taken s (reply r a q) h = absurd (true≢false h)
  not_taken s (save n) h = absurd (true≢false h)
  not_taken s (load v i d) h = absurd (true≢false h)

  -- What is left is what the guard's run over those leaves.
  pub read_only-left : (s : State S) (es : List Event) → read_only_final c S s es ≡ final c S s (taken c es)
  unfolding read_only_final final taken
  read_only-left s [] = refl
  read_only-left s (e ∷ es) = go (read_only-left (step c S s e).state es) (read_only-left s es) (is (takes c e))
    where
      go : read_only_final c S (step c S s e).state es ≡ final c S (step c S s e).state (taken c es)
          → read_only_final c S s es ≡ final c S s (taken c es)
          → Is (takes c e) → read_only_final c S (read_only_step c S s e).state es
          ≡ final c S s (pick (takes c e) (e ∷ taken c es) (taken c es))
      go x y (is_t h) =
          ap (λ (r : Result S). read_only_final c S r.state es) (as_guard s e h) ∙ x
          ∙ sym (ap (final c S s) (pick_true (takes c e) (e ∷ taken c es) (taken c es) h))
      go x y (is_f h) =
          ap (λ t. read_only_final c S t es) (not_taken s e h) ∙ y
          ∙ sym (ap (final c S s) (pick-false (takes c e) (e ∷ taken c es) (taken c es) h))

  -- and the outcomes of those are the guard's
  pub read_only_shows : (s : State S) (es : List Event) → taken_of c es (read_only_outcomes c S s es)
      ≡ outcomes c S s (taken c es)
  unfolding read_only_outcomes outcomes taken taken_of
  read_only_shows s [] = refl
  read_only_shows s (e ∷ es) = go (read_only_shows (step c S s e).state es) (read_only_shows s es) (is (takes c e))
    where
      go : taken_of c es (read_only_outcomes c S (step c S s e).state es)
          ≡ outcomes c S (step c S s e).state (taken c es)
          → taken_of c es (read_only_outcomes c S s es) ≡ outcomes c S s (taken c es) → Is (takes c e)
          → taken_of c (e ∷ es) ((read_only_step c S s e).outcome ∷ read_only_outcomes c S (read_only_step c S s e).state es)
          ≡ outcomes c S s (pick (takes c e) (e ∷ taken c es) (taken c es))
      go x y (is_t h) =
          pick_true (takes c e) _ _ h
          ∙ ap (λ (r : Result S). r.outcome ∷ taken_of c es (read_only_outcomes c S r.state es)) (as_guard s e h)
          ∙ ap (λ os. (step c S s e).outcome ∷ os) x
          ∙ sym (ap (outcomes c S s) (pick_true (takes c e) (e ∷ taken c es) (taken c es) h))
      go x y (is_f h) =
          pick-false (takes c e) _ _ h
          ∙ ap (λ t. taken_of c es (read_only_outcomes c S t es)) (not_taken s e h) ∙ y
          ∙ sym (ap (outcomes c S s) (pick-false (takes c e) (e ∷ taken c es) (taken c es) h))
