-- Two writes side by side, of all bytes and of those before page i (SPECIFICATION 5.5, 6.1): up to page i they send the same requests with the same
-- state; then one is done, and the other comes to the same where the store of page i meets a full disk.
-- Letters: s the state before, k a node's place, o an open file's place, p the position, d the bytes, j a page, a what was sent, u and v states or
-- results of the two.
-- Assumes nothing.
use Rattle.std.proofs.Math.Path.{◌≡◌, refl, ap, sym, subst}
use Rattle.std.proofs.Common.{ap₂, ◌∙◌, arith, length-take-le}
use Rattle.std.specs.Prelude.{Bool, length, take}
use Rattle.std.proofs.Math.Bool.{true, false}
use mathlib.Core.List.{List, [], ◌∷◌, ◌++◌}
use Prim.Native.Nat.{ℕ, suc, ◌+◌, ◌-◌, ◌*◌, ◌≤◌, ◌<◌}
use Rattle.std.proofs.Math.Dec.{ltb}
use borrow.Author.Tests.{lt-ltb, le-ltb, ltb-true, ltb-false}
use Rattle.lists.specs.Pick.{pick, pick_true, pick-false, pick_ind}
use Rattle.lists.specs.Equal.{Is, is_t, is_f, is, or_both}
use Rattle.lists.specs.All.{both, none}
use Rattle.lists.specs.Checks.{Check, decide, decide_passed}
use Rattle.filesystem.specs.Tables.{PAGE_BYTES, pages_for}
use Rattle.rules.specs.Pages.{page_at, Change, writing, first, last, fetches, cuts, stores_more, before, number_of}
use Rattle.rules.proofs.PageLaws.{before_last, before-fetches, before-size}
use Rattle.rules.specs.Requests.{store_request, Pending, idle, fetching, storing}
use Rattle.rules.specs.Skeleton.{Config, Event, call, reply, save, load, Outcome, plain, done, answer_length, request_length}
use Rattle.rules.specs.Rules.{Move, refuse, halt, reply_checks, map_reasons, reasons, reply_action, says_full, full_action, is_idle, event_checks, event_action, judge}
use Rattle.machine.specs.Machine.{Store, State, Result, content_at, size_at, descriptor_at, ask_store, on_page, asking, finish_change, pages_stored, pages_from, cleared, apply, step, outcomes, final}
use Rattle.machine.proofs.GivenUpRuns.{is_ask, AllAsk, no, asks_front}

-- what holds of both arms of two choices by the same test
module _ {A B : Type 0} (F : A → B → Type 0) where
  pick-both : (b : Bool) {x y : A} {x' y' : B} → (b ≡ true → F x x') → (b ≡ false → F y y') → F (pick b x y) (pick b x' y')
  unfolding pick
  pick-both true f g = f refl
  pick-both false f g = g refl

  pick_like : (b b' : Bool) {x y : A} {x' y' : B} → b' ≡ b → (b ≡ true → F x x') → (b ≡ false → F y y') → F (pick b x y) (pick b' x' y')
  pick_like b b' {x = x} {y = y} {x' = x'} {y' = y'} e f g = subst (λ z. F (pick b x y) (pick z x' y')) (sym e) (pick-both b f g)

  decide-both : (stop : ℕ → A) (stop' : ℕ → B) (cs : List Check) {x : A} {y : B} → ((n : ℕ) → F (stop n) (stop' n)) → F x y
      → F (decide stop cs x) (decide stop' cs y)
  unfolding decide
  decide-both stop stop' [] f g = g
  decide-both stop stop' (e ∷ cs) f g = pick-both e.1 (λ _. f e.0) (λ _. decide-both stop stop' cs f g)

-- n pages were sent
pub data Sent (S : Store) : S.Progress → ℕ → Type 0 where
  unsent : Sent S S.nothing 0
  more : {a : S.Progress} {n : ℕ} → Sent S a n → (p : List ℕ) → Sent S (S.sent a p) (suc n)

-- What is asked of a store: the write of the bytes before page i has the same pages before i, and the first n pages sent are had again.
pub record KeepsPages (S : Store) : Type 0 where
  pub same_page : (x : S.Content) (q : Change) (i j : ℕ) (r : List ℕ) → stores_more q ≡ true → first q < i → i < last q → j < i
      → S.page_for x (before q i) j r ≡ S.page_for x q j r
  pub first-sent : {a : S.Progress} {n : ℕ} → Sent S a n → (p : List ℕ) → S.up_to (S.sent a p) n ≡ a

module _ (c : Config) (S : Store) (s : State S) (k o : ℕ) where
  -- the state that waits, with these pages sent
  abbrev at : S.Progress → Pending → State S
  at a p = (asking c S s [] p a).state

  -- Two writes at one position wait for the same page: an event that sends a request does so after the same tests.
  module _ (p : ℕ) (d d' : List ℕ) (F : Result S → Result S → Type 0) (a : S.Progress) (j : ℕ) where
    abbrev Alike : Result S → Result S → Type 0
    Alike x y = is_ask x.outcome.answer ≡ true → F x y

    -- after the fetch of page j
    abbrev fetched : List ℕ → State S
    fetched e = at a (fetching k o (writing p e) j)

    fetch_both : (e : Event)
        → ((r : List ℕ) → F (ask_store c S (fetched d) k o (writing p d) j r) (ask_store c S (fetched d') k o (writing p d') j r))
        → Alike (step c S (fetched d) e) (step c S (fetched d') e)
    unfolding step judge event_checks event_action is_idle reasons reply_checks map_reasons reply_action apply is_ask
    fetch_both (call b x y) f = unfold decide pick in no
    fetch_both (save n) f = unfold decide pick in no
    fetch_both (load k i g) f = unfold decide pick in no
    fetch_both (reply r x y) f =
        let G : Move → Move → Type 0 = λ m m'. Alike (apply c S (fetched d) m) (apply c S (fetched d') m') in
        decide-both G refuse refuse _ (λ n. no)
        (pick-both G false no (λ _. decide-both G halt halt _ (λ n. no) (pick-both Alike _ (λ _ _. f r) (λ _. no))))

    -- after its store
    abbrev sending : List ℕ → State S
    sending e = at a (storing k o (writing p e) j)

    store_both : (e : Event)
        → F (pages_from c S (sending d) k o (writing p d) (suc j)) (pages_from c S (sending d') k o (writing p d') (suc j))
        → Alike (step c S (sending d) e) (step c S (sending d') e)
    unfolding step judge event_checks event_action is_idle reasons reply_checks map_reasons reply_action full_action apply is_ask finish_change first
    store_both (call b x y) f = unfold decide pick in no
    store_both (save n) f = unfold decide pick in no
    store_both (load k i g) f = unfold decide pick in no
    store_both (reply r x y) f =
        let G : Move → Move → Type 0 = λ m m'. Alike (apply c S (sending d) m) (apply c S (sending d') m') in
        decide-both G refuse refuse _ (λ n. no)
        (pick-both G (says_full 4 r) (λ _. pick-both G (ltb (page_at p) j) (λ _. no) (λ _. no)) (λ _. decide-both G halt halt _ (λ n. no) (λ _. f)))

  -- The write of all bytes, and of those before page i.
  module _ (kept : KeepsPages S) (p : ℕ) (d : List ℕ) (i : ℕ) (from : page_at p < i) (to : i < pages_for (p + length d)) where
    abbrev pub whole : Change
    whole = writing p d

    abbrev pub part : Change
    part = writing p (take (i * PAGE_BYTES - p) d)

    -- both wait for the same page before i, with the same pages sent
    data Together : State S → State S → Type 0 where
      both_fetch : (a : S.Progress) (j : ℕ) → page_at p ≤ j → j < i → Sent S a (j - page_at p)
          → Together (at a (fetching k o whole j)) (at a (fetching k o part j))
      both_store : (a : S.Progress) (j : ℕ) → page_at p ≤ j → j < i → Sent S a (suc j - page_at p)
          → Together (at a (storing k o whole j)) (at a (storing k o part j))

    -- the write of all bytes has the pages before i stored, and waits for page i
    data Next (a : S.Progress) : State S → Type 0 where
      next_fetch : Next a (at a (fetching k o whole i))
      next_store : (g : List ℕ) → Next a (at (S.sent a g) (storing k o whole i))

    -- the other is done
    abbrev ended : S.Progress → Result S
    ended a = finish_change c S (at a idle) k o part

    data Reached : Result S → Result S → Type 0 where
      reached : {x : State S} (u : Outcome) (a : S.Progress) → Sent S a (i - page_at p) → Next a x
          → Reached (record { outcome = u; state = x }) (ended a)

    data Beside : Result S → Result S → Type 0 where
      same : {x y : State S} (u : Outcome) → Together x y → Beside (record { outcome = u; state = x }) (record { outcome = u; state = y })
      next : {x y : Result S} → Reached x y → Beside x y

    beside_to : {x y z : Result S} → y ≡ z → Beside x z → Beside x y
    beside_to {x = x} e b = subst (Beside x) (sym e) b

    module _ (a : S.Progress) (x x' : Pending) where
      store_same : (j : ℕ) (r : List ℕ) → page_at p ≤ j → j < i → Sent S a (j - page_at p)
          → Beside (ask_store c S (at a x) k o whole j r) (ask_store c S (at a x') k o part j r)
      unfolding ask_store before first last
      store_same j r l h n =
          beside_to
          (ap₂ (λ z g. asking c S (at a x') (store_request (descriptor_at c S s o) j z g) (storing k o part j) (S.sent a g))
          (before-size whole i (size_at c S s k) j refl from to h)
          (kept.same_page (content_at c S s k) whole i j r refl from to h))
          (same _ (both_store _ j l h (subst (Sent S (S.sent a (S.page_for (content_at c S s k) whole j r))) (omega arith) (more n _))))

      pages_same : (j : ℕ) → page_at p ≤ j → j < i → Sent S a (j - page_at p)
          → Beside (pages_from c S (at a x) k o whole j) (pages_from c S (at a x') k o part j)
      unfolding pages_from on_page first last before
      pages_same j l h n =
          let e = before_last whole i refl from to in
          let size = size_at c S s k in
          let more : ltb j (last whole) ≡ true = lt-ltb j (last whole) (omega arith) in
          pick_like Beside (ltb j (last whole)) (ltb j (last part)) (lt-ltb j (last part) (omega arith) ∙ sym more)
          (λ _. pick_like Beside (fetches whole size j) (fetches part size j) (before-fetches whole i size j refl from to h)
          (λ _. same _ (both_fetch a j l h n)) (λ _. store_same j [] l h n)) (λ f. no (sym f ∙ more))

      pages-next : (j : ℕ) → i ≡ j → Sent S a (j - page_at p)
          → Reached (pages_from c S (at a x) k o whole j) (pages_from c S (at a x') k o part j)
      unfolding pages_from pages_stored on_page ask_store finish_change first last before cuts
      pages-next j e n =
          let l = before_last whole i refl from to in
          subst (λ m. Reached (pages_from c S (at a x) k o whole m) (pages_from c S (at a x') k o part m)) e
          (subst (λ z. Reached z (pages_from c S (at a x') k o part i)) (sym (pick_true _ _ _ (lt-ltb i (last whole) to)))
          (subst (Reached _) (sym (pick-false _ _ _ (le-ltb i (last part) (omega arith)) ∙ pick-false _ _ _ refl))
          (pick_ind (λ z. Reached z (ended a)) (fetches whole (size_at c S s k) i)
          (λ _. reached _ a (subst (λ m. Sent S a (m - page_at p)) (sym e) n) next_fetch)
          (λ _. reached _ a (subst (λ m. Sent S a (m - page_at p)) (sym e) n) (next_store _)))))

    step-beside : {x y : State S} → Together x y → (e : Event) → is_ask (step c S x e).outcome.answer ≡ true → Beside (step c S x e) (step c S y e)
    step-beside (both_fetch a j l h n) e = fetch_both p d _ Beside a j e (λ r. store_same a _ _ j r l h n)
    step-beside (both_store a j l h n) e = store_both p d _ Beside a j e (go (is (ltb (suc j) i)))
      where
        go : Is (ltb (suc j) i)
            → Beside (pages_from c S (at a (storing k o whole j)) k o whole (suc j)) (pages_from c S (at a (storing k o part j)) k o part (suc j))
        go (is_t f) = pages_same a _ _ (suc j) (omega arith) (ltb-true _ _ f) n
        go (is_f f) = let z : i ≤ suc j = ltb-false _ _ f in next (pages-next a _ _ (suc j) (omega arith) n)

    -- the write of all bytes waits for page n or a later one, and so it stays as long as it sends requests
    data Past (n : ℕ) : State S → Type 0 where
      past_fetch : (a : S.Progress) (j : ℕ) → n ≤ j → Past n (at a (fetching k o whole j))
      past_store : (a : S.Progress) (j : ℕ) → n ≤ j → Past n (at a (storing k o whole j))

    abbrev Goes : ℕ → Result S → Type 0
    Goes n x = is_ask x.outcome.answer ≡ true → Past n x.state

    pages_past : (n : ℕ) (a : S.Progress) (x : Pending) (j : ℕ) → n ≤ j → Goes n (pages_from c S (at a x) k o whole j)
    unfolding pages_from pages_stored on_page ask_store finish_change cuts is_ask
    pages_past n a x j h =
        pick_ind (Goes n) (ltb j (last whole))
        (λ _. pick_ind (Goes n) (fetches whole (size_at c S s k) j) (λ _ _. past_fetch _ j h) (λ _ _. past_store _ j h))
        (λ _. pick_ind (Goes n) false no (λ _. no))

    store_past : (a : S.Progress) (j : ℕ) (e : Event) → Goes (suc j) (step c S (at a (storing k o whole j)) e)
    store_past a j e h = store_both p d d (λ x _. Goes (suc j) x) a j e (pages_past (suc j) a _ (suc j) (omega arith)) h h

    past_step : {n : ℕ} {x : State S} → Past n x → (e : Event) → Goes n (step c S x e)
    unfolding ask_store
    past_step {n = n} (past_fetch a j l) e h = fetch_both p d d (λ x _. Past n x.state) a j e (λ r. past_store _ j l) h
    past_step {n = n} (past_store a j l) e h = store_both p d d (λ x _. Goes n x) a j e (pages_past n a _ (suc j) (omega arith)) h h

    past_run : {n : ℕ} {x : State S} → Past n x → (es : List Event) → AllAsk (outcomes c S x es) → Past n (final c S x es)
    unfolding outcomes final
    past_run h [] a = h
    past_run {n = n} {x = x} h (e ∷ es) (both a b) = past_run {x = (step c S x e).state} (past_step h e a) es b

    past_storing : {n : ℕ} {x : State S} → Past n x → (m : ℕ) → x.skeleton.pending ≡ storing k o whole m → n ≤ m
    past_storing (past_fetch a j l) m e = absurd (let z : ◌≡◌ {A = ℕ} 0 1 = cc in omega arith)
    past_storing (past_store a j l) m e = let z : j ≡ m = cc in omega arith

    next_past : {a : S.Progress} {x : State S} → Next a x → Past i x
    next_past next_fetch = past_fetch _ i (omega arith)
    next_past (next_store g) = past_store _ i (omega arith)

    -- The store of page i is answered -28, with room for the reply.
    module _ (r : List ℕ) (x y : ℕ) (full : says_full 4 r ≡ true) (answer : answer_length c ≤ x) (request : request_length c ≤ y) where
      full-ends : (a : S.Progress) (g : List ℕ) → Sent S a (i - page_at p) → step c S (at (S.sent a g) (storing k o whole i)) (reply r x y) ≡ ended a
      unfolding step judge event_checks event_action is_idle apply full_action finish_change before first
      full-ends a g n =
          ap (apply c S (at (S.sent a g) (storing k o whole i)))
          (decide_passed refuse _ _ (both refl (both refl (both (or_both _ _ (le-ltb _ _ answer) (le-ltb _ _ request)) none)))
          ∙ (pick_true _ _ _ full ∙ pick_true _ _ _ (lt-ltb (page_at p) i from)))
          ∙ ap ended (kept.first-sent n g)

      -- the replies before it, to page i's fetch, send requests
      abbrev Ends : S.Progress → State S → List Event → Type 0
      Ends a u fs =
          AllAsk (outcomes c S u fs)
          → (final c S u fs).skeleton.pending ≡ storing k o whole i
          → step c S (final c S u fs) (reply r x y) ≡ ended a

      store_ends : (a : S.Progress) (g : List ℕ) → Sent S a (i - page_at p) → (fs : List Event) → Ends a (at (S.sent a g) (storing k o whole i)) fs
      unfolding outcomes final
      store_ends a g n [] h e = full-ends a g n
      store_ends a g n (f ∷ fs) (both h l) e =
          let z : suc i ≤ i = past_storing (past_run (store_past _ i f h) fs l) i e in absurd (omega arith)

      next-ends : {a : S.Progress} {u : State S} → Sent S a (i - page_at p) → Next a u → (fs : List Event) → Ends a u fs
      unfolding outcomes final ask_store
      next-ends n (next_store g) fs h e = store_ends _ g n fs h e
      next-ends n next_fetch [] h e = absurd (let z : ◌≡◌ {A = ℕ} 0 1 = cc in omega arith)
      next-ends {a = a} n next_fetch (f ∷ fs) (both h l) e = fetch_both p d d (λ z _. Ends a z.state fs) a i f (λ g. store_ends a _ n fs) h l e

      -- It is done with the bytes before page i.
      abbrev pub Done : Result S → Result S → Type 0
      Done u v = (u ≡ v) × (u.outcome ≡ plain (done (i * PAGE_BYTES - p) []))

      ended-count : (a : S.Progress) → (ended a).outcome ≡ plain (done (i * PAGE_BYTES - p) [])
      unfolding finish_change number_of pages_for
      ended-count a = ap (λ n. plain (done n [])) (length-take-le (i * PAGE_BYTES - p) d (omega arith))

      -- The replies up to the one to the store of page i - 1 are ws and w, those to page i's fetch fs.
      module _ (w : Event) (fs : List Event) where
        -- both writes send the same requests up to there, and come to the same
        abbrev Comes : State S → State S → List Event → Type 0
        Comes u v ws =
            AllAsk (outcomes c S u (ws ++ (w ∷ fs)))
            → (final c S u ws).skeleton.pending ≡ storing k o whole (i - 1)
            → (final c S u (ws ++ (w ∷ fs))).skeleton.pending ≡ storing k o whole i
            → (outcomes c S v ws ≡ outcomes c S u ws) × Done (step c S (final c S u (ws ++ (w ∷ fs))) (reply r x y)) (step c S (final c S v ws) w)

        -- with the outcome before
        abbrev pub ComesOn : Result S → Result S → List Event → Type 0
        ComesOn u v ws =
            AllAsk (outcomes c S u.state (ws ++ (w ∷ fs)))
            → (final c S u.state ws).skeleton.pending ≡ storing k o whole (i - 1)
            → (final c S u.state (ws ++ (w ∷ fs))).skeleton.pending ≡ storing k o whole i
            → (◌≡◌ {A = List Outcome} (v.outcome ∷ outcomes c S v.state ws) (u.outcome ∷ outcomes c S u.state ws))
            × Done (step c S (final c S u.state (ws ++ (w ∷ fs))) (reply r x y)) (step c S (final c S v.state ws) w)

        reached_done : {u v : Result S} → Reached u v → AllAsk (outcomes c S u.state fs)
            → (final c S u.state fs).skeleton.pending ≡ storing k o whole i
            → Done (step c S (final c S u.state fs) (reply r x y)) v
        reached_done (reached _ a n z) t f = let e = next-ends n z fs t f in (e, ap (λ (x : Result S). x.outcome) e ∙ ended-count a)

        last_page : {u v : State S} → Together u v → Comes u v []
        unfolding outcomes final
        last_page (both_fetch a j l h n) (both q t) e f = absurd (let z : ◌≡◌ {A = ℕ} 0 1 = cc in omega arith)
        last_page (both_store a j l h n) (both q t) e f =
            let z : j ≡ i - 1 = cc in
            (refl, reached_done (store_both p d _ Reached a j w (pages-next a _ _ (suc j) (omega arith) n) q) t f)

        beside_comes : (ws : List Event) → ((u v : State S) → Together u v → Comes u v ws) → {u v : Result S} → Beside u v → ComesOn u v ws
        beside_comes ws f (same n t) q e g = let z = f _ _ t q e g in (ap (λ os. n ∷ os) z.0, z.1)
        beside_comes ws f (next (reached {x = u} _ a n z)) q e g =
            let m : i ≤ i - 1 = past_storing (past_run (next_past z) ws (asks_front c S u ws (w ∷ fs) q)) (i - 1) e in
            absurd (omega arith)

        comes : {u v : State S} → Together u v → (ws : List Event) → Comes u v ws
        unfolding outcomes final
        comes t [] q e f = last_page t q e f
        comes {u = u'} {v = v'} t (g ∷ ws) (both q z) e f = beside_comes ws (λ u v t'. comes {u = u} {v = v} t' ws) (step-beside t g q) z e f

        -- from the moment on at which the two writes begin
        pub begun_comes : (ws : List Event)
            → ComesOn (pages_from c S (cleared c S s) k o whole (page_at p)) (pages_from c S (cleared c S s) k o part (page_at p)) ws
        unfolding pages_from on_page ask_store pages_stored finish_change
        begun_comes ws =
            beside_comes ws (λ u v t. comes t ws)
            (pages_same S.nothing idle idle (page_at p) (omega arith) from (subst (Sent S S.nothing) (omega arith) unsent))
