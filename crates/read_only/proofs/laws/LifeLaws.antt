-- Both halves over lives of either kind, proved: a read-only life is a life of the guard over what it takes, and what
-- it refuses follows from that (proofs/laws/OutcomeLaws.antt).
-- Assumes nothing.
use Rattle.std.specs.Prelude.{◌≡◌, Bool, ℕ}
use Rattle.std.proofs.Math.Path.{refl, ap, sym, subst}
use Rattle.std.proofs.Common.{◌∙◌}
use Rattle.std.proofs.Math.Bool.{true, false}
use mathlib.Core.List.{List, [], ◌∷◌}
use Rattle.lists.specs.Pick.{pick, pick_ind}
use Rattle.lists.specs.All.{All, both, none}
use Rattle.lists.specs.Or.{ok, ◌>>=◌}
use Rattle.rules.specs.Skeleton.{Config, Event}
use Rattle.machine.specs.Machine.{Store, State, image_of, step, fresh, outcomes, final, guard}
use Rattle.machine.specs.Tree.{tree, guard_of}
use Rattle.machine.specs.Claim.{Fit, NoStop}
use Rattle.machine.specs.Seen.{Seen, events, answers}
use Rattle.machine.specs.Restart.{BytesSeen, Quiet, restarted, OfFresh as OfGuard, AgreeLives as SameLives}
use Rattle.machine.specs.Restart.{FirstHalfOfLives as FirstOfGuard, SecondHalfOfLives as SecondOfGuard}
use Rattle.machine.proofs.RestartRun.{first-half_of-lives, second_half_of_lives}
use Rattle.read_only.specs.ReadOnly.{takes, taken, read_only_step, read_only_outcomes, read_only_final}
use Rattle.read_only.specs.Claim.{last_loaded, Gives, AsLoaded, ReadOnlyClaim}
use Rattle.read_only.specs.Lives.{Life, outcomes_of, final_of, taken_seen, all_kept, OfFresh, tree_left, AgreeLives}
use Rattle.read_only.specs.Lives.{SavesAsLoaded, step_as, FirstHalfOfLives, SecondHalfOfLives}
use Rattle.read_only.proofs.laws.ClaimLaws.{read_only_claim}
use Rattle.read_only.proofs.laws.StepLaws.{as_guard, taken_of, read_only-left, read_only_shows}
use Rattle.read_only.proofs.laws.OutcomeLaws.{all_same, all_no_stop}

module _ (c : Config) where
  -- a run of either kind, event by event
  pub first-outcome : (b : Bool) (S : Store) (s : State S) (e : Event) (es : List Event)
      → outcomes_of c b S s (e ∷ es) ≡ (step_as c b S s e).outcome ∷ outcomes_of c b S (step_as c b S s e).state es
  unfolding read_only_outcomes outcomes pick
  first-outcome true S s e es = refl
  first-outcome false S s e es = refl

  pub first-left : (b : Bool) (S : Store) (s : State S) (e : Event) (es : List Event)
      → final_of c b S s (e ∷ es) ≡ final_of c b S (step_as c b S s e).state es
  unfolding read_only_final final pick
  first-left true S s e es = refl
  first-left false S s e es = refl

  -- what either takes
  pub step_either : (b : Bool) (S : Store) (s : State S) (e : Event) → takes c e ≡ true → step_as c b S s e
      ≡ step c S s e
  unfolding pick
  step_either true S s e h = as_guard c S s e h
  step_either false S s e h = refl

  -- the read-only claim of what is seen
  seen_as-loaded : (image : List ℕ) (g : State (guard c)) (xs : List Seen) → AsLoaded c image g (events xs)
      → answers xs ≡ read_only_outcomes c (guard c) g (events xs) → SavesAsLoaded c image xs
  unfolding AsLoaded SavesAsLoaded read_only_outcomes
  seen_as-loaded image g [] a q = tt
  seen_as-loaded image g (x ∷ xs) (_, gives, more) q =
      let r = read_only_step c (guard c) g x.event in
      let here : x.outcome ≡ r.outcome = cc in
      let rest : answers xs ≡ read_only_outcomes c (guard c) r.state (events xs) = cc in
      subst (λ o. Gives c image x.event o × SavesAsLoaded c (last_loaded image x.event o) xs) (sym here)
      (gives, seen_as-loaded (last_loaded image x.event (read_only_step c (guard c) g x.event).outcome) r.state xs more rest)

  pub saves_as_loaded : (xs : List Seen) → BytesSeen xs
      → answers xs ≡ read_only_outcomes c (guard c) (fresh c (guard c)) (events xs)
      → SavesAsLoaded c (image_of c (guard c) (fresh c (guard c))) xs
  unfolding ReadOnlyClaim
  saves_as_loaded xs bs q = seen_as-loaded _ (fresh c (guard c)) xs (read_only_claim c (events xs) bs) q

  taken-events : (xs : List Seen) → events (taken_seen c xs) ≡ taken c (events xs)
  unfolding taken_seen taken pick
  taken-events [] = refl
  taken-events (x ∷ xs) = go (taken-events xs) (takes c x.event)
    where
      go : events (taken_seen c xs) ≡ taken c (events xs) → (b : Bool)
          → events (pick b (x ∷ taken_seen c xs) (taken_seen c xs))
          ≡ pick b (x.event ∷ taken c (events xs)) (taken c (events xs))
      go h true = ap (λ l. x.event ∷ l) h
      go h false = h

  taken-answers : (xs : List Seen) → answers (taken_seen c xs) ≡ taken_of c (events xs) (answers xs)
  unfolding taken_seen taken_of pick
  taken-answers [] = refl
  taken-answers (x ∷ xs) = go (taken-answers xs) (takes c x.event)
    where
      go : answers (taken_seen c xs) ≡ taken_of c (events xs) (answers xs) → (b : Bool)
          → answers (pick b (x ∷ taken_seen c xs) (taken_seen c xs))
          ≡ pick b (x.outcome ∷ taken_of c (events xs) (answers xs)) (taken_of c (events xs) (answers xs))
      go h true = ap (λ l. x.outcome ∷ l) h
      go h false = h

  pub taken-bytes : (xs : List Seen) → BytesSeen xs → BytesSeen (taken_seen c xs)
  unfolding taken_seen
  taken-bytes [] none = none
  taken-bytes (x ∷ xs) (both b bs) =
      let more = taken-bytes xs bs in
      pick_ind BytesSeen (takes c x.event) (λ _. both b more) (λ _. more)

  -- what a read-only guard took is a run of the guard
  taken_of-guard : (xs : List Seen) → answers xs ≡ read_only_outcomes c (guard c) (fresh c (guard c)) (events xs)
      → OfGuard c (taken_seen c xs)
  taken_of-guard xs q =
      taken-answers xs ∙ ap (taken_of c (events xs)) q ∙ read_only_shows c (guard c) (fresh c (guard c)) (events xs)
      ∙ sym (ap (outcomes c (guard c) (fresh c (guard c))) (taken-events xs))

  kept_of_guard : (b : Bool) (xs : List Seen) → answers xs ≡ outcomes_of c b (guard c) (fresh c (guard c)) (events xs)
      → OfGuard c (pick b (taken_seen c xs) xs)
  unfolding pick
  kept_of_guard true xs q = taken_of-guard xs q
  kept_of_guard false xs q = q

  all_of_guard : (ls : List Life) → All (OfFresh c) ls → All (OfGuard c) (all_kept c ls)
  all_of_guard [] none = none
  all_of_guard (l ∷ ls) (both q a) = both (kept_of_guard l.read_only l.seen q) (all_of_guard ls a)

  -- One life, from the tree t on.
  module _ (t : State (tree c)) where
    abbrev start : State (tree c)
    start = restarted c t

    -- the tree's run over what was taken is its own read-only run
    tree_left_lem : (b : Bool) (xs : List Seen)
        → final_of c b (tree c) start (events xs) ≡ final c (tree c) start (events (pick b (taken_seen c xs) xs))
    unfolding pick
    tree_left_lem true xs = read_only-left c (tree c) start (events xs)
        ∙ sym (ap (final c (tree c) start) (taken-events xs))
    tree_left_lem false xs = refl

    same_outcomes : (b : Bool) (xs : List Seen) → answers xs ≡ outcomes_of c b (guard c) (fresh c (guard c)) (events xs)
        → answers (pick b (taken_seen c xs) xs) ≡ outcomes c (tree c) start (events (pick b (taken_seen c xs) xs))
        → answers xs ≡ outcomes_of c b (tree c) start (events xs)
    unfolding pick restarted
    same_outcomes true xs q h =
        let g = fresh c (guard c) in
        q ∙ all_same c (guard c) (tree c) g start (events xs) refl
        (ap (outcomes c (guard c) g) (sym (taken-events xs)) ∙ sym (taken_of-guard xs q) ∙ h
        ∙ ap (outcomes c (tree c) start) (taken-events xs))
    same_outcomes false xs q h = h

    same_left : (b : Bool) (xs : List Seen)
        → final c (guard c) (fresh c (guard c)) (events (pick b (taken_seen c xs) xs))
        ≡ guard_of c (final c (tree c) start (events (pick b (taken_seen c xs) xs)))
        → final_of c b (guard c) (fresh c (guard c)) (events xs) ≡ guard_of c (final_of c b (tree c) start (events xs))
    unfolding pick
    same_left true xs h =
        read_only-left c (guard c) (fresh c (guard c)) (events xs)
        ∙ ap (final c (guard c) (fresh c (guard c))) (sym (taken-events xs)) ∙ h
        ∙ ap (guard_of c) (sym (tree_left_lem true xs))
    same_left false xs h = h

  agree_lives : (t : State (tree c)) (ls : List Life) → All (OfFresh c) ls → SameLives c t (all_kept c ls)
      → AgreeLives c t ls
  unfolding SameLives AgreeLives
  agree_lives t [] none a = tt
  agree_lives t (l ∷ ls) (both q qs) (same, left, more) = (
    same_outcomes t l.read_only l.seen q same,
    same_left t l.read_only l.seen left,
    agree_lives (tree_left c t l) ls qs
        (subst (λ u. SameLives c u (all_kept c ls)) (sym (tree_left_lem t l.read_only l.seen)) more),
  )

  quiet-life : (b : Bool) (xs : List Seen) → answers xs ≡ outcomes_of c b (guard c) (fresh c (guard c)) (events xs)
      → Quiet (pick b (taken_seen c xs) xs) → Quiet xs
  unfolding pick
  quiet-life true xs q h =
      let g = fresh c (guard c) in
      subst (All NoStop) (sym q) (all_no_stop c (guard c) g (events xs)
      (subst (All NoStop) (taken_of-guard xs q ∙ ap (outcomes c (guard c) g) (taken-events xs)) h))
  quiet-life false xs q h = h

  quiet-lives : (ls : List Life) → All (OfFresh c) ls → All Quiet (all_kept c ls)
      → All (λ (l : Life). Quiet l.seen) ls
  quiet-lives [] none none = none
  quiet-lives (l ∷ ls) (both q qs) (both h hs) = both (quiet-life l.read_only l.seen q h) (quiet-lives ls qs hs)

module _ (c : Config) (fit : Fit c) where
  pub first_half_with_readers : FirstHalfOfLives c
  unfolding FirstHalfOfLives FirstOfGuard
  first_half_with_readers ls qs bs st lo = do
    a ← first-half_of-lives c fit (all_kept c ls) (all_of_guard c ls qs) bs st lo
    ok (agree_lives c (fresh c (tree c)) ls qs a)

  pub second_half_with_readers : SecondHalfOfLives c
  unfolding SecondHalfOfLives SecondOfGuard
  second_half_with_readers ls qs bs st ho =
      let (n, a) = second_half_of_lives c fit (all_kept c ls) (all_of_guard c ls qs) bs st ho in
      (quiet-lives c ls qs n, agree_lives c (fresh c (tree c)) ls qs a)
