-- The claim after power-up (SPECIFICATION 10.9), proved: a load that is done leaves a guard that was just switched on the same, whatever was held
-- before, so a life that begins with one goes on as if the guard had never been switched off. It has no map then.
-- Assumes nothing.
use Rattle.std.specs.Prelude.{◌≡◌, ◌⊎◌, ℕ}
use Rattle.std.proofs.Math.Path.{refl, ap, sym, subst}
use Rattle.std.proofs.Common.{ap₂, ◌∙◌, inl, inr}
use mathlib.Core.List.Memᴰ
use mathlib.Core.List.{List, [], ◌∷◌, ◌++◌, map, Memᴰ}
use Rattle.lists.specs.All.{All, both, none as all_none, all_head, all_tail}
use Rattle.lists.specs.Or.{Or, ok, ◌>>=◌}
use Rattle.lists.specs.Checks.{decide_ind}
use Rattle.filesystem.specs.Image.{Version, layout_of, parse}
use Rattle.rules.specs.Requests.{is_fetch}
use Rattle.rules.specs.Skeleton.{Config, Event, call, reply, save, load, EventBytes, Answer, done, ask, refused, stopped}
use Rattle.rules.specs.Rules.{Move, refuse, loading, image_or, event_checks, event_action, judge}
use Rattle.rules.proofs.TableLaws.{bare_valid, fresh_valid}
use Rattle.rules.specs.Valid.{Valid}
use Rattle.rules.proofs.FitLaws.{judge_fits}
use Rattle.rules.proofs.MapLaws.{none_valid}
use Rattle.rules.specs.ValidMaps.{MapsValid}
use Rattle.machine.proofs.Simulation.{result_of}
use Rattle.machine.specs.Machine.{Files, Store, State, Result, files, apply, step, fresh, outcomes, final, guard}
use Rattle.machine.proofs.MapRuns.{run_maps}
use Rattle.machine.specs.Tree.{tree, progress_of, guard_of}
use Rattle.machine.specs.History.{awaits_page, page_out, image_in, image_out, images, Collision}
use Rattle.machine.specs.Claim.{Fit, is_done, is_stop, NoStop, OfLatest, given, LoadOf, LoadsOfSaves, HonestAt, Honest}
use Rattle.machine.proofs.Run.{Bad, Holds, History, Simulated, simulate, fresh_holds, fresh_guard_lem}
use Rattle.machine.proofs.HonestRun.{Any, quiet}
use Rattle.machine.proofs.TreeProperties.{run_holds}
use Rattle.machine.specs.Seen.{Seen, events, shown, standing, page_replied, pages_after, pages_seen, images_seen, given_after, LoadsSeen, HonestSeen}
use Rattle.machine.proofs.SeenLaws.{shown-is, images-shown, loads-shown, honest-shown, Stands, move_stands, page_replied_lem}
use Rattle.machine.specs.Restart.{switched_on, BeginsWith, Begins, Restarts, pages_of_lives, images_of_lives, LoadsOfLives, BytesSeen, Quiet, OfFresh, restarted, tree_after, AgreeLives, FirstHalfOfLives, HonestLives, SecondHalfOfLives}

-- A load in a machine that was just switched on.
module _ (c : Config) (k : Version) (i d : List ℕ) where
  abbrev loads : (S : Store) → Files S.Content → S.Saves → Result S
  loads S f v = step c S (switched_on S f v) (load k i d)

  -- it is refused, or the image is taken over; the files that it meets do not matter
  load_ind : (S : Store) (f : Files S.Content) (v : S.Saves) (F : Move → Type 0) → ((n : ℕ) → F (refuse n))
      → F (loading (image_or (parse (layout_of c.width k) i)) d)
      → F (judge c (switched_on S f v).skeleton (load k i d))
  unfolding judge event_action
  load_ind S f v F r l =
      decide_ind refuse F (event_checks c (switched_on S f v).skeleton (load k i d))
      (loading (image_or (parse (layout_of c.width k) i)) d) (λ n _. r n) (λ _. l)

  -- it comes to the same whatever is kept of pages
  same_outcome : (S T : Store) (f : Files S.Content) (v : S.Saves) (g : Files T.Content) (w : T.Saves) → (loads S f v).outcome ≡ (loads T g w).outcome
  unfolding step judge event_checks event_action apply
  same_outcome S T f v g w = load_ind S f v (λ m. (apply c S (switched_on S f v) m).outcome ≡ (apply c T (switched_on T g w) m).outcome) (λ n. refl) refl

  -- it never stops
  no_stop_load : (S : Store) (f : Files S.Content) (v : S.Saves) → NoStop (loads S f v).outcome
  unfolding step apply is_stop
  no_stop_load S f v = load_ind S f v (λ m. NoStop (apply c S (switched_on S f v) m).outcome) (λ n. refl) refl

  -- one that is not done changes nothing
  stays_on : (S : Store) (f : Files S.Content) (v : S.Saves) → (is_done (loads S f v).outcome.answer → ⊥) → (loads S f v).state ≡ switched_on S f v
  unfolding step apply is_done
  stays_on S f v = load_ind S f v F (λ n h. refl) (λ h. absurd (h tt))
    where
      F : Move → Type 0
      F m = (is_done (apply c S (switched_on S f v) m).outcome.answer → ⊥) → (apply c S (switched_on S f v) m).state ≡ switched_on S f v

  -- one that is done leaves the same guard
  same_load : (f g : Files (List (List ℕ))) → is_done (loads (guard c) f tt).outcome.answer → loads (guard c) f tt ≡ loads (guard c) g tt
  unfolding step judge event_checks event_action apply is_done
  same_load f g = load_ind (guard c) f tt F (λ n h. absurd h) (λ h. refl)
    where
      with_files_lem : Files (List (List ℕ)) → Move → Result (guard c)
      with_files_lem x m = apply c (guard c) (switched_on (guard c) x tt) m

      F : Move → Type 0
      F m = is_done (with_files_lem f m).outcome.answer → with_files_lem f m ≡ with_files_lem g m

is_done_lem : (a : Answer) → is_done a ⊎ (is_done a → ⊥)
unfolding is_done
is_done_lem (done n b) = inl tt
is_done_lem (ask q) = inr (λ h. h)
is_done_lem (refused n) = inr (λ h. h)
is_done_lem (stopped n) = inr (λ h. h)

module _ (c : Config) where
  abbrev start : State (guard c)
  start = fresh c (guard c)

  abbrev started : Version → List ℕ → List ℕ → Result (guard c)
  started k i d = step c (guard c) start (load k i d)

  -- A life beside the tree t at power-up.
  module _ (t : State (tree c)) where
    abbrev resumed : Version → List ℕ → List ℕ → Result (tree c)
    resumed k i d = step c (tree c) (restarted c t) (load k i d)

    module _ (F : List Event → Type 0) where
      -- it holds of what begins with a load that is done: the guard is then as if it had not been switched off
      abbrev Begun : Type 0
      Begun =
          (k : Version) (i d : List ℕ) (es : List Event)
          → started k i d ≡ step c (guard c) (guard_of c (restarted c t)) (load k i d) → F (load k i d ∷ es)

      -- a load that is refused may come before
      abbrev Tried : Type 0
      Tried =
          (k : Version) (i d : List ℕ) (es : List Event) → (started k i d).outcome ≡ (resumed k i d).outcome
          → (started k i d).state ≡ start → (resumed k i d).state ≡ restarted c t
          → F es → F (load k i d ∷ es)

      life_ind : Begun → Tried → (es : List Event) → Begins (shown c (guard c) start es) → F es
      unfolding shown Begins BeginsWith restarted guard_of progress_of
      life_ind begun tried [] b = absurd b
      life_ind begun tried (call s a q ∷ es) b = absurd b
      life_ind begun tried (reply r a q ∷ es) b = absurd b
      life_ind begun tried (save n ∷ es) b = absurd b
      life_ind begun tried (load k i d ∷ es) b =
          go (is_done_lem (started k i d).outcome.answer) b (life_ind begun tried es)
        where
          go : is_done (started k i d).outcome.answer ⊎ (is_done (started k i d).outcome.answer → ⊥)
              → is_done (started k i d).outcome.answer ⊎ Begins (shown c (guard c) (started k i d).state es)
              → (Begins (shown c (guard c) start es) → F es) → F (load k i d ∷ es)
          go (inl h) b ih = begun k i d es (same_load c k i d _ _ h)
          go (inr h) (inl x) ih = absurd (h x)
          go (inr h) (inr x) ih =
              let o = same_outcome c k i d (guard c) (tree c) _ tt (files c (tree c) t) t.saves in
              let g = stays_on c k i d (guard c) _ tt h in
              tried k i d es o g (stays_on c k i d (tree c) (files c (tree c) t) t.saves
              (λ x. h (subst (λ y. is_done y.answer) (sym o) x)))
              (ih (subst (λ y. Begins (shown c (guard c) y es)) g x))

module _ (c : Config) (fit : Fit c) where
  restarted_holds : (M N : List ℕ → Type 0) (t : State (tree c)) → Holds c fit M N t → Holds c fit M N (restarted c t)
  unfolding restarted
  restarted_holds M N t h = record {
    valid = record { tables = bare_valid c.width _ h.valid.tables.nodes_valid; pending = tt };
    kept = record { good = h.kept.good; sofar = tt; saves = h.kept.saves };
  }

  abbrev from : State (guard c)
  from = start c

  abbrev kept : State (tree c) → List (List ℕ)
  kept t = map (λ s. s.digest) t.saves

  module _ (M N : List ℕ → Type 0) where
    -- the pages that are seen of a run of the guard, by the tree's run, where a request stands at first
    abbrev PagesIn : State (guard c) → State (tree c) → List Event → Type 0
    PagesIn g t es = (q : List ℕ) × Stands c q g × ((p : List ℕ) → Memᴰ p (pages_after c q t (shown c (guard c) g es)) → M p)

    seen_history : History c fit M N PagesIn
    unfolding pages_after shown result_of guard_of step
    seen_history = record {
      here = λ g t e es (r, st, np) q. (
        (λ p m. np p (Memᴰ.append_left _ (Memᴰ.append_left _
            (subst (Memᴰ p) (sym (page_replied_lem c r t.skeleton.pending e (subst (Stands c r) q st))) m)))),
        (λ x p m. np p (Memᴰ.append_left _ (Memᴰ.append_right (page_replied r e)
            (subst (λ (y : Result (guard c)). Memᴰ p (page_out (step c (tree c) t e).state.skeleton y.outcome.answer))
            (sym (ap (λ s. step c (guard c) s e) q ∙ x)) m)))),
      );
      rest = λ g t e es (r, st, np) q h b. (
        standing r e (step c (guard c) g e).outcome.answer,
        move_stands c r g st (judge_fits c g.skeleton (subst (λ (s : State (guard c)). Valid c.width s.skeleton) (sym q) h.valid) e b),
        λ p m. np p (Memᴰ.append_right (page_replied r e ++ page_out (step c (tree c) t e).state.skeleton (step c (guard c) g e).outcome.answer) m),
      );
    }

    abbrev Within : State (guard c) → State (tree c) → List Event → Type 0
    Within g t es = PagesIn g t es × ((p : List ℕ) → Memᴰ p (images c (guard c) g es) → N p)

    -- a load that is refused leaves a guard that awaits no page
    stays : (k : Version) (i d r : List ℕ) → Stands c r from → EventBytes (load k i d) → (started c k i d).state ≡ from
        → Stands c (standing r (load k i d) (started c k i d).outcome.answer) from
    unfolding step
    stays k i d r st b g = subst (Stands c (standing r (load k i d) (started c k i d).outcome.answer)) g
        (move_stands c r from st (judge_fits c from.skeleton (fresh_valid c.width fit.wide) (load k i d) b))

    -- one life that is not the first
    later-life : (t : State (tree c)) → Holds c fit M N t → (es : List Event) → Begins (shown c (guard c) from es)
        → All EventBytes es → LoadsOfSaves c (kept t) from es → Within from (restarted c t) es
        → Or (Bad c fit M N) (Simulated c fit M N from (restarted c t) es)
    unfolding LoadsOfSaves given pages_after images outcomes final given_after shown restarted guard_of
    later-life t h = life_ind c t F begun tried
      where
        F : List Event → Type 0
        F es =
            All EventBytes es → LoadsOfSaves c (kept t) from es → Within from (restarted c t) es
            → Or (Bad c fit M N) (Simulated c fit M N from (restarted c t) es)

        begun : Begun c t F
        begun k i d es z bs lo ((r, st, np), ni) = do
          s ← simulate c fit M N PagesIn seen_history (load k i d ∷ es) (guard_of c (restarted c t)) (restarted c t) refl
              (restarted_holds M N t h) bs
              (subst (λ r. LoadOf (kept t) (load k i d) r.outcome × LoadsOfSaves c (kept t) r.state es) z lo) (
                r,
                st,
                subst (λ y. (p : List ℕ)
                    → Memᴰ p (pages_after c r (restarted c t) (record { event = load k i d; outcome = y.outcome }
                    ∷ shown c (guard c) y.state es)) → M p) z np,
              )
              (subst (λ r. (p : List ℕ)
              → Memᴰ p ((image_in (load k i d) ++ image_out (load k i d) r.outcome)
              ++ images c (guard c) r.state es) → N p) z ni)
          ok (record {
            same = ap (λ r. r.outcome ∷ outcomes c (guard c) r.state es) z ∙ s.same;
            left = ap (λ r. final c (guard c) r.state es) z ∙ s.left;
            holds = s.holds;
            saved = s.saved ∙ ap (λ r. given_after (kept t) (shown c (guard c) r.state es)) (sym z);
          })

        tried : Tried c t F
        tried k i d es o g u ih bs lo ((r, st, np), ni) = do
          s ← ih (all_tail bs) (subst (λ y. LoadsOfSaves c (kept t) y es) g lo.1) (
            (
              standing r (load k i d) (started c k i d).outcome.answer,
              stays k i d r st (all_head bs) g,
              λ p m. np p
                  (Memᴰ.append_right (page_replied r (load k i d)
                  ++ page_out (resumed c t k i d).state.skeleton (started c k i d).outcome.answer)
                  (subst (λ y. Memᴰ p
                  (pages_after c (standing r (load k i d) (started c k i d).outcome.answer) y
                  (shown c (guard c) (started c k i d).state es)))
                  (sym u)
                  (subst (λ y. Memᴰ p
                  (pages_after c (standing r (load k i d) (started c k i d).outcome.answer) (restarted c t)
                  (shown c (guard c) y es)))
                  (sym g) m))),
            ),
            (λ p m. ni p (Memᴰ.append_right (image_in (load k i d) ++ image_out (load k i d) (started c k i d).outcome)
                (subst (λ y. Memᴰ p (images c (guard c) y es)) (sym g) m))),
          )
          ok (record {
            same = ap₂ ◌∷◌ o (ap (λ y. outcomes c (guard c) y es) g ∙ s.same ∙ ap (λ y. outcomes c (tree c) y es) (sym u));
            left = ap (λ y. final c (guard c) y es) g ∙ s.left ∙ ap (λ y. guard_of c (final c (tree c) y es)) (sym u);
            holds = subst (λ y. Holds c fit M N (final c (tree c) y es)) (sym u) s.holds;
            saved = ap (λ y. kept (final c (tree c) y es)) u ∙ s.saved ∙ ap (λ y. given_after (kept t) (shown c (guard c) y es)) (sym g);
          })

    -- what was seen of a life, as the guard's run
    as_run : (xs : List Seen) → OfFresh c xs → xs ≡ shown c (guard c) from (events xs)
    as_run xs q = shown-is c (guard c) from xs q

    within : (t : State (tree c)) (xs : List Seen) → OfFresh c xs
        → ((p : List ℕ) → Memᴰ p (pages_seen c t xs) → M p) → ((p : List ℕ) → Memᴰ p (images_seen xs) → N p) → Within from t (events xs)
    unfolding awaits_page is_fetch
    within t xs q np ni = (
      ([], refl, subst (λ l. (p : List ℕ) → Memᴰ p (pages_after c [] t l) → M p) (as_run xs q) np),
      subst (λ l. (p : List ℕ) → Memᴰ p l → N p) (ap images_seen (as_run xs q) ∙ images-shown c from (events xs)) ni,
    )

    loads_as_run : (ds : List (List ℕ)) (xs : List Seen) → OfFresh c xs → LoadsSeen ds xs → LoadsOfSaves c ds from (events xs)
    loads_as_run ds xs q lo = subst (λ L. L) (loads-shown c ds from (events xs)) (subst (LoadsSeen ds) (as_run xs q) lo)

    -- the digests that the tree keeps after a life are those that were given
    given-kept : (t : State (tree c)) (xs : List Seen) → OfFresh c xs → Simulated c fit M N from (restarted c t) (events xs)
        → given_after (kept t) xs ≡ kept (tree_after c t xs)
    unfolding restarted
    given-kept t xs q s = ap (given_after (kept t)) (as_run xs q) ∙ sym s.saved

    abbrev Known : State (tree c) → List (List Seen) → Type 0
    Known t ls = ((p : List ℕ) → Memᴰ p (pages_of_lives c t ls) → M p) × ((p : List ℕ) → Memᴰ p (images_of_lives ls) → N p)

    -- one life and those that follow it
    module _ (t : State (tree c)) (xs : List Seen) (ls : List (List Seen)) (q : OfFresh c xs) (k : Known t (xs ∷ ls)) where
      known-here : Within from (restarted c t) (events xs)
      unfolding pages_of_lives images_of_lives
      known-here = within (restarted c t) xs q (λ p m. k.0 p (Memᴰ.append_left _ m)) (λ p m. k.1 p (Memᴰ.append_left _ m))

      known-later : Known (tree_after c t xs) ls
      unfolding pages_of_lives images_of_lives
      known-later = ((λ p m. k.0 p (Memᴰ.append_right (pages_seen c (restarted c t) xs) m)), (λ p m. k.1 p (Memᴰ.append_right (images_seen xs) m)))

    later-lives : (ls : List (List Seen)) (t : State (tree c)) → Holds c fit M N t → All (OfFresh c) ls → All BytesSeen ls → All Begins ls
        → LoadsOfLives (kept t) ls → Known t ls → Or (Bad c fit M N) (AgreeLives c t ls)
    unfolding AgreeLives LoadsOfLives
    later-lives [] t h qs bs st lo k = ok tt
    later-lives (xs ∷ ls) t h (both q qs) (both b bs) (both st sts) (lo, los) k = do
      s ← later-life t h (events xs) (subst Begins (as_run xs q) st) b (loads_as_run (kept t) xs q lo) (known-here t xs ls q k)
      r ← later-lives ls (tree_after c t xs) s.holds qs bs sts (subst (λ ds. LoadsOfLives ds ls) (given-kept t xs q s) los) (known-later t xs ls q k)
      ok (q ∙ s.same, s.left, r)

    -- the first life begins fresh
    all_lives : (ls : List (List Seen)) → All (OfFresh c) ls → All BytesSeen ls → Restarts ls → LoadsOfLives [] ls → Known (fresh c (tree c)) ls
        → Or (Bad c fit M N) (AgreeLives c (fresh c (tree c)) ls)
    unfolding AgreeLives LoadsOfLives Restarts restarted
    all_lives [] qs bs st lo k = ok tt
    all_lives (xs ∷ ls) (both q qs) (both b bs) st (lo, los) k = do
      let t = fresh c (tree c)
      let (np, ni) = known-here t xs ls q k
      s ← simulate c fit M N PagesIn seen_history (events xs) from t (fresh_guard_lem c fit) (fresh_holds c fit M N) b (loads_as_run [] xs q lo) np ni
      r ← later-lives ls (tree_after c t xs) s.holds qs bs st (subst (λ ds. LoadsOfLives ds ls) (given-kept t xs q s) los) (known-later t xs ls q k)
      ok (q ∙ s.same, s.left, r)

  pub first-half_of-lives : FirstHalfOfLives c
  unfolding FirstHalfOfLives Collision
  first-half_of-lives ls qs bs st lo =
      all_lives (λ p. Memᴰ p (pages_of_lives c (fresh c (tree c)) ls)) (λ p. Memᴰ p (images_of_lives ls)) ls qs bs st lo ((λ p m. m), (λ p m. m))

  -- The honest host.
  abbrev Good : State (tree c) → Type 0
  Good t = Holds c fit Any Any t

  abbrev Same : State (tree c) → List Event → Type 0
  Same t es = (outcomes c (guard c) from es ≡ outcomes c (tree c) t es) × (final c (guard c) from es ≡ guard_of c (final c (tree c) t es))

  later-quiet : (t : State (tree c)) → Good t → (es : List Event) → Begins (shown c (guard c) from es) → All EventBytes es → Honest c from (restarted c t) es
      → All NoStop (outcomes c (guard c) from es) × Same (restarted c t) es
  unfolding Honest HonestAt outcomes final
  later-quiet t h = life_ind c t F begun tried
    where
      F : List Event → Type 0
      F es = All EventBytes es → Honest c from (restarted c t) es → All NoStop (outcomes c (guard c) from es) × Same (restarted c t) es

      begun : Begun c t F
      begun k i d es z bs ho =
          let (n, (s, l)) = quiet c fit (load k i d ∷ es) (guard_of c (restarted c t)) (restarted c t) refl
          (restarted_holds Any Any t h) bs
          (subst (λ r. (is_done r.outcome.answer → OfLatest c (restarted c t) i d)
          × Honest c r.state (resumed c t k i d).state es) z ho) in (
            subst (λ r. All NoStop (r.outcome ∷ outcomes c (guard c) r.state es)) (sym z) n,
            (ap (λ r. r.outcome ∷ outcomes c (guard c) r.state es) z ∙ s, ap (λ r. final c (guard c) r.state es) z ∙ l),
          )

      tried : Tried c t F
      tried k i d es o g u ih bs (_, ho) =
          let (n, (s, l)) = ih (all_tail bs)
          (subst (λ y. Honest c from y es) u (subst (λ y. Honest c y (resumed c t k i d).state es) g ho)) in (
            both (no_stop_load c k i d (guard c) _ tt) (subst (λ y. All NoStop (outcomes c (guard c) y es)) (sym g) n),
            (
              ap₂ ◌∷◌ o (ap (λ y. outcomes c (guard c) y es) g ∙ s ∙ ap (λ y. outcomes c (tree c) y es) (sym u)),
              ap (λ y. final c (guard c) y es) g ∙ l ∙ ap (λ y. guard_of c (final c (tree c) y es)) (sym u),
            ),
          )

  honest_as_run : (t : State (tree c)) (xs : List Seen) → OfFresh c xs → HonestSeen c t xs → Honest c from t (events xs)
  honest_as_run t xs q ho = subst (λ H. H) (honest-shown c from t (events xs)) (subst (HonestSeen c t) (shown-is c (guard c) from xs q) ho)

  quiet_as_run : (xs : List Seen) → OfFresh c xs → All NoStop (outcomes c (guard c) from (events xs)) → Quiet xs
  quiet_as_run xs q n = subst (All NoStop) (sym q) n

  -- the tree that a life leaves
  life_leaves : (t : State (tree c)) → Good t → (xs : List Seen) → BytesSeen xs → Good (tree_after c t xs)
  life_leaves t h xs b = run_holds c fit (restarted c t) (events xs) b (restarted_holds Any Any t h)

  later-lives-quiet : (ls : List (List Seen)) (t : State (tree c)) → Good t → All (OfFresh c) ls → All BytesSeen ls → All Begins ls → HonestLives c t ls
      → All Quiet ls × AgreeLives c t ls
  unfolding AgreeLives HonestLives
  later-lives-quiet [] t h qs bs st ho = (all_none, tt)
  later-lives-quiet (xs ∷ ls) t h (both q qs) (both b bs) (both st sts) (ho, hos) =
      let (n, (s, l)) = later-quiet t h (events xs) (subst Begins (shown-is c (guard c) from xs q) st) b (honest_as_run (restarted c t) xs q ho) in
      let (ns, r) = later-lives-quiet ls (tree_after c t xs) (life_leaves t h xs b) qs bs sts hos in
      (both (quiet_as_run xs q n) ns, (q ∙ s, l, r))

  pub second_half_of_lives : SecondHalfOfLives c
  unfolding SecondHalfOfLives AgreeLives HonestLives Restarts restarted
  second_half_of_lives [] qs bs st ho = (all_none, tt)
  second_half_of_lives (xs ∷ ls) (both q qs) (both b bs) st (ho, hos) =
      let t = fresh c (tree c) in
      let h = fresh_holds c fit Any Any in
      let (n, (s, l)) = quiet c fit (events xs) from t (fresh_guard_lem c fit) h b (honest_as_run t xs q ho) in
      let (ns, r) = later-lives-quiet ls (tree_after c t xs) (life_leaves t h xs b) qs bs st hos in
      (both (quiet_as_run xs q n) ns, (q ∙ s, l, r))

-- a guard or a tree that is switched on has no map, and valid ones along its life
pub life_maps : (c : Config) (S : Store) (f : Files S.Content) (v : S.Saves) (es : List Event) → All EventBytes es
    → MapsValid (final c S (switched_on S f v) es).skeleton
life_maps c S f v es a = run_maps c S (switched_on S f v) (record { valid = none_valid; pending = tt }) es a
