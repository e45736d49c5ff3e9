-- What a refusal and a stop are and what they leave, over the steps of the machine; a fresh one takes a create.
-- Assumes nothing.
use Rattle.std.proofs.Math.Path.{◌≡◌, refl, ap, sym}
use Rattle.std.proofs.Common.{◌∙◌, subst, true≢false}
use Rattle.std.specs.Prelude.{◌↔◌, ◌⊎◌, Bool, false, List, [], ◌∷◌, ℕ, suc, ◌+◌, ◌*◌, ◌≤◌, ltb, leb, length}
use Rattle.std.proofs.Math.Logic.{inl, inr}
use Rattle.std.proofs.Math.Bool.{true}
use native.Mathlib.Omega.{arith}
use borrow.Author.Tests.{leb-true}
use Rattle.lists.specs.Pick.{pick_ind}
use Rattle.lists.specs.Equal.{and_fst, and_snd, and_both}
use Rattle.lists.specs.All.{Bytes, both, none as all_none, all_append}
use Rattle.lists.specs.Search.{every, any}
use Rattle.lists.specs.Checks.{Passed, First, here, decide_passed}
use Rattle.filesystem.specs.Tables.{NAME_BYTES}
use Rattle.filesystem.specs.Paths.{component_form}
use Rattle.rules.specs.Calls.{create, call_bytes}
use Rattle.rules.specs.Pages.{Change, first, last, fetches, cuts}
use Rattle.rules.specs.Skeleton.{Config, Event, call, reply, save, load, Answer, done, ask, refused, stopped, plain, answer_length, request_length}
use Rattle.rules.specs.Rules.{Move, refuse, halt, send, finish, add, delete, remap, read_page, begin, fill_page, stored, cut_done, keep_pages, give_up, saving, loading, call_action, map_checks, event_checks, gives_up, judge}
use Rattle.machine.specs.Machine.{Store, State, Result, content_at, size_at, stopping, gave_up, read_on, finish_change, pages_stored, ask_store, on_page, pages_from, cleared, apply, step, fresh}
use Rattle.rules.specs.Numbers.{known, is_reason}
use Rattle.rules.proofs.Outcomes.{first-has, checks_known, refused_exactly, gives_up_exactly, halt_reason, judge-call, fresh-create-passes}

-- What a move comes to: a refusal, a stop, or neither.
unfoldable pub onward : Answer → Bool
onward (done n b) = true
onward (ask q) = true
onward (refused n) = false
onward (stopped n) = false

module _ (c : Config) (S : Store) where
  data Came (s : State S) (m : Move) (r : Result S) : Type 0 where
    goes : onward r.outcome.answer ≡ true → Came s m r
    refuses : {n : ℕ} → m ≡ refuse n → r ≡ record { outcome = plain (refused n); state = s } → Came s m r
    stops : {n : ℕ} → (m ≡ halt n) ⊎ (n ≡ 5) → r ≡ stopping c S s n → Came s m r
    ends : m ≡ give_up → r ≡ gave_up c S s → Came s m r

  abbrev Onward : Result S → Type 0
  Onward r = onward r.outcome.answer ≡ true

  pub pages-onward : (s : State S) (k o : ℕ) (q : Change) (i : ℕ) → Onward (pages_from c S s k o q i)
  unfolding pages_from on_page ask_store pages_stored finish_change onward
  pages-onward s k o q i =
      pick_ind Onward (ltb i (last q)) (λ _. pick_ind Onward (fetches q (size_at c S s k) i) (λ _. refl) (λ _. refl)) (λ _. pick_ind Onward (cuts q) (λ _. refl) (λ _. refl))

  came : (s : State S) (m : Move) → Came s m (apply c S s m)
  unfolding apply read_on ask_store finish_change onward
  came s (refuse n) = refuses refl refl
  came s (halt n) = stops (inl refl) refl
  came s (send p q) = goes refl
  came s (finish t n b) = goes refl
  came s (add n) = goes refl
  came s (delete k) = goes refl
  came s (remap x) = goes refl
  came s (read_page k o p n i r) =
      pick_ind (Came s (read_page k o p n i r)) (S.is_page (content_at c S s k) i r)
      (λ _. pick_ind (Came s (read_page k o p n i r)) (leb (p + n) (i * 1024 + 1024)) (λ _. goes refl) (λ _. goes refl)) (λ _. stops (inr refl) refl)
  came s (begin k o q) = goes (pages-onward (cleared c S s) k o q (first q))
  came s (fill_page k o q i r) = pick_ind (Came s (fill_page k o q i r)) (S.is_page (content_at c S s k) i r) (λ _. goes refl) (λ _. stops (inr refl) refl)
  came s (stored k o q i) = goes (pages-onward s k o q (suc i))
  came s (cut_done k o q) = goes refl
  came s (keep_pages k o q i) = goes refl
  came s give_up = ends refl refl
  came s saving = goes refl
  came s (loading i d) = goes refl

  module _ (s : State S) (m : Move) (r : Result S) (n : ℕ) where
    came_refused : Came s m r → r.outcome.answer ≡ refused n
        → ((m ≡ refuse n) × (r.state ≡ s)) ⊎ ((m ≡ give_up) × (n ≡ 28) × (r ≡ gave_up c S s))
    unfolding onward
    came_refused (goes g) e = absurd (true≢false (sym g ∙ ap onward e))
    came_refused (refuses {n = k} q x) e =
        let z : refused k ≡ refused n = sym (ap (λ y. y.outcome.answer) x) ∙ e in
        let y : k ≡ n = cc in
        inl (q ∙ ap refuse y, ap (λ y. y.state) x)
    came_refused (ends q x) e =
        let z : refused 28 ≡ refused n = sym (ap (λ y. y.outcome.answer) x) ∙ e in
        let y : 28 ≡ n = cc in
        inr (q, sym y, x)
    came_refused (stops {n = k} q x) e =
        let z : stopped k ≡ refused n = sym (ap (λ y. y.outcome.answer) x) ∙ e in
        absurd (let y : ◌≡◌ {A = ℕ} 0 1 = cc in omega arith)

    came_stopped : Came s m r → r.outcome.answer ≡ stopped n → ((m ≡ halt n) ⊎ (n ≡ 5)) × (r.state.skeleton.stopped ≡ true)
    unfolding onward
    came_stopped (goes g) e = absurd (true≢false (sym g ∙ ap onward e))
    came_stopped (refuses {n = k} q x) e =
        let z : refused k ≡ stopped n = sym (ap (λ y. y.outcome.answer) x) ∙ e in
        absurd (let y : ◌≡◌ {A = ℕ} 0 1 = cc in omega arith)
    came_stopped (stops {n = k} q x) e =
        let z : stopped k ≡ stopped n = sym (ap (λ y. y.outcome.answer) x) ∙ e in
        let y : k ≡ n = cc in
        (subst (λ k. (m ≡ halt k) ⊎ (k ≡ 5)) y q, ap (λ y. y.state.skeleton.stopped) x)
    came_stopped (ends q x) e =
        let z : refused 28 ≡ stopped n = sym (ap (λ y. y.outcome.answer) x) ∙ e in
        absurd (let y : ◌≡◌ {A = ℕ} 0 1 = cc in omega arith)

  -- every event, whatever is kept of pages
  module _ (s : State S) (e : Event) where
    -- the host says that the disk is full where it may, with no page finished: the call ends
    abbrev pub GivesUp : Type 0
    GivesUp = Passed (event_checks c s.skeleton e) × (gives_up c s.skeleton e ≡ true)

    pub given_up : GivesUp → step c S s e ≡ gave_up c S s
    unfolding step apply
    given_up g = ap (apply c S s) ((gives_up_exactly c s.skeleton e).1 g)

  module _ (s : State S) (e : Event) (n : ℕ) where
    refuses_move : (step c S s e).outcome.answer ≡ refused n
        → ((judge c s.skeleton e ≡ refuse n) × ((step c S s e).state ≡ s)) ⊎ ((judge c s.skeleton e ≡ give_up) × (n ≡ 28) × (step c S s e ≡ gave_up c S s))
    unfolding step
    refuses_move q = came_refused s (judge c s.skeleton e) _ n (came s (judge c s.skeleton e)) q

    -- refused n exactly where n is the first of the event's numbers, or n is 28 and the call is given up
    pub step_refused_exactly : ((step c S s e).outcome.answer ≡ refused n) ↔ (First n (event_checks c s.skeleton e) ⊎ (GivesUp s e × (n ≡ 28)))
    unfolding step apply
    step_refused_exactly = (λ q. to (refuses_move q), from)
      where
        to : ((judge c s.skeleton e ≡ refuse n) × ((step c S s e).state ≡ s)) ⊎ ((judge c s.skeleton e ≡ give_up) × (n ≡ 28) × (step c S s e ≡ gave_up c S s))
            → First n (event_checks c s.skeleton e) ⊎ (GivesUp s e × (n ≡ 28))
        to (inl (x, y)) = inl ((refused_exactly c s.skeleton e n).0 x)
        to (inr (x, y, z)) = inr ((gives_up_exactly c s.skeleton e).0 x, y)

        from : First n (event_checks c s.skeleton e) ⊎ (GivesUp s e × (n ≡ 28)) → (step c S s e).outcome.answer ≡ refused n
        from (inl f) = ap (λ m. (apply c S s m).outcome.answer) ((refused_exactly c s.skeleton e n).1 f)
        from (inr (g, y)) = ap (λ m. (apply c S s m).outcome.answer) ((gives_up_exactly c s.skeleton e).1 g) ∙ ap refused (sym y)

    pub refused_known : (step c S s e).outcome.answer ≡ refused n → known n ≡ true
    unfolding known any
    refused_known q = go (step_refused_exactly.0 q)
      where
        go : First n (event_checks c s.skeleton e) ⊎ (GivesUp s e × (n ≡ 28)) → known n ≡ true
        go (inl f) = first-has (checks_known c s.skeleton e) f
        go (inr (g, y)) = rw y

    -- a refusal changes nothing (SPECIFICATION 7.2), but where a call is given up: then the request is gone, and all else is as it was
    pub refused_unchanged : (step c S s e).outcome.answer ≡ refused n → gives_up c s.skeleton e ≡ false → (step c S s e).state ≡ s
    refused_unchanged q g = go (refuses_move q)
      where
        go : ((judge c s.skeleton e ≡ refuse n) × ((step c S s e).state ≡ s)) ⊎ ((judge c s.skeleton e ≡ give_up) × (n ≡ 28) × (step c S s e ≡ gave_up c S s))
            → (step c S s e).state ≡ s
        go (inl (x, y)) = y
        go (inr (x, y, z)) = absurd (true≢false (sym ((gives_up_exactly c s.skeleton e).0 x).1 ∙ g))

    pub stopped_reason : (step c S s e).outcome.answer ≡ stopped n → (1 ≤ n) × (n ≤ 8)
    unfolding step is_reason
    stopped_reason q = go (came_stopped s (judge c s.skeleton e) _ n (came s (judge c s.skeleton e)) q).0
      where
        go : (judge c s.skeleton e ≡ halt n) ⊎ (n ≡ 5) → (1 ≤ n) × (n ≤ 8)
        go (inl h) = let r = halt_reason c s.skeleton e n h in (leb-true 1 n (and_fst _ _ r), leb-true n 8 (and_snd (leb 1 n) _ r))
        go (inr h) = omega arith

    pub stopped_stays : (step c S s e).outcome.answer ≡ stopped n → (step c S s e).state.skeleton.stopped ≡ true
    unfolding step
    stopped_stays q = (came_stopped s (judge c s.skeleton e) _ n (came s (judge c s.skeleton e)) q).1

  -- after a stop every event is refused 5, and changes nothing
  pub after_stop : (s : State S) (e : Event) → s.skeleton.stopped ≡ true → step c S s e ≡ record { outcome = plain (refused 5); state = s }
  unfolding step apply event_checks
  after_stop s e h = ap (apply c S s) ((refused_exactly c s.skeleton e 5).1 (go e))
    where
      go : (e : Event) → First 5 (event_checks c s.skeleton e)
      go (call b a q) = rw h here
      go (reply r a q) = rw h here
      go (save k) = rw h here
      go (load k i d) = rw h here

-- A fresh one takes a create of a name of the right form and length: its request goes out.
pub fresh_creates : (c : Config) (S : Store) (m : ℕ) (x : List ℕ) (a q : ℕ) → m ≤ 7 → component_form x ≡ true → length x ≤ NAME_BYTES → Bytes x
    → answer_length c ≤ a → request_length c ≤ q
    → (step c S (fresh c S) (call (call_bytes c.width (create m (x ∷ []))) a q)).outcome ≡ plain (ask (call_bytes c.width (create m (x ∷ []))))
unfolding step apply call_action every
fresh_creates c S m x a q mode form short b h l =
    ap (λ m. (apply c S (fresh c S) m).outcome)
    (judge-call c (fresh c S).skeleton (create m (x ∷ [])) a q (mode, record { form = and_both _ _ form refl; bytes = both b all_none }) refl refl h l
    ∙ decide_passed refuse _ _ (all_append (fresh-create-passes m x short) (unfold map_checks in all_none)))
