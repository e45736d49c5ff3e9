-- What an event may change, when it stops the guard, and what its buffers were (demands 1 and 2), over the steps of the machine.
-- Assumes nothing.
use Rattle.std.proofs.Math.Path.{◌≡◌, refl, ap, sym}
use Rattle.std.proofs.Common.{◌∙◌, subst}
use Rattle.std.specs.Prelude.{◌↔◌, Bool, not, ◌||◌, ℕ, suc, ◌+◌, ◌*◌, ◌≤◌, ltb, leb}
use Rattle.std.proofs.Math.Bool.{true, false, true≢false}
use mathlib.Core.List.{List, [], ◌∷◌, ◌++◌}
use native.Mathlib.Omega.{arith}
use borrow.Author.Tests.{ltb-false}
use Rattle.lists.specs.Pick.{pick, pick_true, pick-false, pick_ind}
use Rattle.lists.specs.Equal.{Is, is_t, is_f, is, or_fst, or_snd}
use Rattle.lists.specs.All.{All, both, none}
use Rattle.lists.specs.Search.{without}
use Rattle.lists.specs.Checks.{Check, Passed, First, decide, decide_passed, decide_ind, decide_exactly, decide-append, decide-map}
use Rattle.filesystem.specs.Tables.{PAGE_BYTES, Node, Tables}
use Rattle.filesystem.specs.Image.{saved, image_length}
use Rattle.rules.specs.Pages.{Change, first, last, fetches, cuts}
use Rattle.rules.specs.Requests.{asked, Pending, idle, creating, opening, closing, removing, changing, listing, stating, mapping, unmapping, reading, fetching, storing, cutting}
use Rattle.rules.specs.Requests.{renaming}
use Rattle.rules.specs.Skeleton.{Config, Event, call, reply, save, Answer, done, ask, refused, stopped, Outcome, plain, answer_length, request_length}
use Rattle.filesystem.specs.MemoryMaps.{Map}
use Rattle.rules.specs.MapRules.{begins, ends, find_map, maps_after, map_number}
use Rattle.rules.specs.Rules.{Move, refuse, halt, send, finish, add, delete, remap, read_page, begin, fill_page, stored, cut_done, keep_pages, give_up, saving, loading, reasons, reply_action, tells_full, full_action, is_idle, event_checks, event_action, judge}
use Rattle.machine.specs.Machine.{Store, State, Result, content_at, size_at, cleared, read_on, finish_change, pages_stored, ask_store, on_page, pages_from, apply, step, outcomes, final}
use Rattle.machine.proofs.StepOutcomes.{onward, pages-onward, after_stop}

unfoldable pub is_done_answer : Answer → Bool
is_done_answer (done n b) = true
is_done_answer (ask q) = false
is_done_answer (refused n) = false
is_done_answer (stopped n) = false

module _ (c : Config) (S : Store) where
  -- Tables, contents and saves change only where the answer is done: not at a refusal, a request or a stop.
  abbrev pub Unchanged : (s t : State S) → Type 0
  Unchanged s t = (t.skeleton.tables ≡ s.skeleton.tables) × (t.contents ≡ s.contents) × (t.saves ≡ s.saves)

  abbrev Keeps : State S → Result S → Type 0
  Keeps s r = is_done_answer r.outcome.answer ≡ false → Unchanged s r.state

  pages_keep : (s : State S) (k o : ℕ) (q : Change) (i : ℕ) → Keeps s (pages_from c S s k o q i)
  unfolding pages_from on_page ask_store pages_stored finish_change is_done_answer
  pages_keep s k o q i =
      pick_ind (Keeps s) (ltb i (last q)) (λ _. pick_ind (Keeps s) (fetches q (size_at c S s k) i) (λ _ _. (refl, refl, refl)) (λ _ _. (refl, refl, refl)))
      (λ _. pick_ind (Keeps s) (cuts q) (λ _ _. (refl, refl, refl)) (λ _ e. absurd (true≢false e)))

  move_keeps : (s : State S) (m : Move) → Keeps s (apply c S s m)
  unfolding apply read_on ask_store finish_change is_done_answer
  move_keeps s (refuse n) = λ e. (refl, refl, refl)
  move_keeps s (halt n) = λ e. (refl, refl, refl)
  move_keeps s (send p q) = λ e. (refl, refl, refl)
  move_keeps s (finish t n b) = λ e. absurd (true≢false e)
  move_keeps s (add n) = λ e. absurd (true≢false e)
  move_keeps s (delete k) = λ e. absurd (true≢false e)
  move_keeps s (remap x) = λ e. absurd (true≢false e)
  move_keeps s (read_page k o p n i r) =
      pick_ind (Keeps s) (S.is_page (content_at c S s k) i r)
      (λ _. pick_ind (Keeps s) (leb (p + n) (i * PAGE_BYTES + PAGE_BYTES)) (λ _ e. absurd (true≢false e)) (λ _ _. (refl, refl, refl))) (λ _ _. (refl, refl, refl))
  move_keeps s (begin k o q) = pages_keep (cleared c S s) k o q (first q)
  move_keeps s (fill_page k o q i r) = pick_ind (Keeps s) (S.is_page (content_at c S s k) i r) (λ _ _. (refl, refl, refl)) (λ _ _. (refl, refl, refl))
  move_keeps s (stored k o q i) = pages_keep s k o q (suc i)
  move_keeps s (cut_done k o q) = λ e. absurd (true≢false e)
  move_keeps s (keep_pages k o q i) = λ e. absurd (true≢false e)
  move_keeps s give_up = λ e. (refl, refl, refl)
  move_keeps s saving = λ e. absurd (true≢false e)
  move_keeps s (loading i d) = λ e. absurd (true≢false e)

  pub only_done_changes : (s : State S) (e : Event) → is_done_answer (step c S s e).outcome.answer ≡ false → Unchanged s (step c S s e).state
  unfolding step
  only_done_changes s e = move_keeps s (judge c s.skeleton e)

  -- SPECIFICATION 13.3: what a rule says is done is done, and nothing else: the tables are the rule's, a request goes out and nothing is said to be done.
  pub finished : (s : State S) (t : Tables) (n : ℕ) (b : List ℕ)
      → ((apply c S s (finish t n b)).outcome ≡ plain (done n b)) × ((apply c S s (finish t n b)).state.skeleton.tables ≡ t)
  unfolding apply
  finished s t n b = (refl, refl)

  pub added : (s : State S) (n : Node)
      → ((apply c S s (add n)).outcome ≡ plain (done n.id [])) × ((apply c S s (add n)).state.skeleton.tables.nodes ≡ s.skeleton.tables.nodes ++ (n ∷ []))
  unfolding apply
  added s n = (refl, refl)

  pub deleted : (s : State S) (k : ℕ)
      → ((apply c S s (delete k)).outcome ≡ plain (done 0 [])) × ((apply c S s (delete k)).state.skeleton.tables.nodes ≡ without k s.skeleton.tables.nodes)
  unfolding apply
  deleted s k = (refl, refl)

  pub mapped : (s : State S) (m : Map)
      → ((apply c S s (remap (begins m))).outcome ≡ plain (done m.address [])) × ((apply c S s (remap (begins m))).state.skeleton.maps ≡ s.skeleton.maps ++ (m ∷ []))
  unfolding apply maps_after map_number
  mapped s m = (refl, refl)

  pub unmapped : (s : State S) (a : ℕ)
      → ((apply c S s (remap (ends a))).outcome ≡ plain (done 0 [])) × ((apply c S s (remap (ends a))).state.skeleton.maps ≡ without (find_map s.skeleton.maps a) s.skeleton.maps)
  unfolding apply maps_after map_number
  unmapped s a = (refl, refl)

  pub requested : (s : State S) (p : Pending) (q : List ℕ)
      → ((apply c S s (send p q)).outcome ≡ plain (ask q)) × ((apply c S s (send p q)).state.skeleton.pending ≡ p)
  unfolding apply
  requested s p q = (refl, refl)

  -- After a stop every event of every list is refused 5, and changes nothing.
  pub stopped_for_good : (s : State S) (es : List Event) → s.skeleton.stopped ≡ true
      → All (λ (o : Outcome). o ≡ plain (refused 5)) (outcomes c S s es) × (final c S s es ≡ s)
  unfolding outcomes final
  stopped_for_good s [] h = (none, refl)
  stopped_for_good s (e ∷ es) h =
      let q = after_stop c S s e h in
      let ih = stopped_for_good s es h in (
        both (ap (λ r. r.outcome) q) (subst (λ (x : State S). All (λ (o : Outcome). o ≡ plain (refused 5)) (outcomes c S x es)) (sym (ap (λ r. r.state) q)) ih.0),
        ap (λ (r : Result S). final c S r.state es) q ∙ ih.1,
      )

  -- Stopped n exactly where n is the first of the reply's reasons, and the reply does not say that the disk is full where it may: those of the rules, and
  -- behind them the page's digest.
  unfoldable pub page_checks : State S → List ℕ → Pending → List Check
  page_checks s r idle = []
  page_checks s r (asked x) = []
  page_checks s r (reading k o p n i) = (5, not (S.is_page (content_at c S s k) i r)) ∷ []
  page_checks s r (fetching k o q i) = (5, not (S.is_page (content_at c S s k) i r)) ∷ []
  page_checks s r (storing k o q i) = []
  page_checks s r (cutting k o q) = []

  unfoldable pub stop_checks : State S → List ℕ → List Check
  stop_checks s r = reasons c.width s.skeleton r ++ page_checks s r s.skeleton.pending

  -- an answer that goes on, behind these reasons
  record Behind (cs : List Check) (a : Answer) : Type 0 where
    next : Answer
    goes : onward next ≡ true
    is : a ≡ decide stopped cs next

  at_once : (a : Answer) → onward a ≡ true → Behind [] a
  unfolding decide
  at_once a h = record { next = a; goes = h; is = refl }

  page_first : (b : Bool) (x y : Result S) → onward x.outcome.answer ≡ true → y.outcome.answer ≡ stopped 5
      → Behind ((5, not b) ∷ []) (pick b x y).outcome.answer
  unfolding decide pick
  page_first true x y h e = record { next = x.outcome.answer; goes = h; is = refl }
  page_first false x y h e = record { next = x.outcome.answer; goes = h; is = e }

  read-onward : (s : State S) (k o p n i : ℕ) (a : S.Progress) → onward (read_on c S s k o p n i a).outcome.answer ≡ true
  unfolding read_on onward
  read-onward s k o p n i a = pick_ind (λ (r : Result S). onward r.outcome.answer ≡ true) (leb (p + n) (i * PAGE_BYTES + PAGE_BYTES)) (λ _. refl) (λ _. refl)

  behind : (s : State S) (r : List ℕ) (p : Pending) → is_idle p ≡ false
      → Behind (page_checks s r p) (apply c S s (reply_action c.width s.skeleton.tables r p)).outcome.answer
  unfolding page_checks reply_action apply is_idle onward finish_change ask_store
  behind s r idle h = absurd (true≢false h)
  behind s r (asked (creating p k m name)) h = at_once _ refl
  behind s r (asked (opening k rights)) h = at_once _ refl
  behind s r (asked (closing o)) h = at_once _ refl
  behind s r (asked (removing k)) h = at_once _ refl
  behind s r (asked (changing k m)) h = at_once _ refl
  behind s r (asked (listing k)) h = at_once _ refl
  behind s r (asked (stating k)) h = at_once _ refl
  behind s r (asked (mapping n)) h = at_once _ refl
  behind s r (asked (unmapping x)) h = at_once _ refl
  behind s r (asked (renaming k p name)) h = at_once _ refl
  behind s r (reading k o p n i) h = page_first (S.is_page (content_at c S s k) i r) _ _ (read-onward s k o p n i _) refl
  behind s r (fetching k o q i) h = page_first (S.is_page (content_at c S s k) i r) _ _ refl refl
  behind s r (storing k o q i) h = at_once _ (pages-onward c S s k o q (suc i))
  behind s r (cutting k o q) h = at_once _ refl

  module _ (s : State S) (r : List ℕ) (a q : ℕ) where
    abbrev answer : Answer
    answer = (step c S s (reply r a q)).outcome.answer

    abbrev answer_to : Move → Answer
    answer_to m = (apply c S s m).outcome.answer

    judged : answer ≡ decide refused (event_checks c s.skeleton (reply r a q)) (answer_to (event_action c s.skeleton (reply r a q)))
    unfolding step judge apply
    judged = decide-map refuse answer_to (event_checks c s.skeleton (reply r a q)) (event_action c s.skeleton (reply r a q))

    -- a reply that says that the disk is full, where it may, never stops
    full_never : (p : Pending) (n : ℕ) → answer_to (full_action p) ≡ stopped n → ⊥
    unfolding full_action apply finish_change
    full_never idle n e = let z : ◌≡◌ {A = ℕ} 0 1 = cc in omega arith
    full_never (asked x) n e = let z : ◌≡◌ {A = ℕ} 0 1 = cc in omega arith
    full_never (reading k o p m i) n e = let z : ◌≡◌ {A = ℕ} 0 1 = cc in omega arith
    full_never (fetching k o x i) n e = let z : ◌≡◌ {A = ℕ} 0 1 = cc in omega arith
    full_never (storing k o x i) n y =
        pick_ind (λ m. answer_to m ≡ stopped n → ⊥) (ltb (first x) i) (λ _ e. let z : ◌≡◌ {A = ℕ} 0 1 = cc in omega arith) (λ _ e. let z : ◌≡◌ {A = ℕ} 0 1 = cc in omega arith) y
    full_never (cutting k o x) n e = let z : ◌≡◌ {A = ℕ} 0 1 = cc in omega arith

    acted : is_idle s.skeleton.pending ≡ false → tells_full c.width r s.skeleton.pending ≡ false
        → Behind (stop_checks s r) (answer_to (event_action c s.skeleton (reply r a q)))
    unfolding event_action stop_checks apply
    acted h full =
        let b = behind s r s.skeleton.pending h in
        let cs = reasons c.width s.skeleton r in
        record {
          next = b.next;
          goes = b.goes;
          is =
              ap answer_to (pick-false _ _ _ full)
              ∙ decide-map halt answer_to cs (reply_action c.width s.skeleton.tables r s.skeleton.pending)
              ∙ ap (decide stopped cs) b.is
              ∙ sym (decide-append stopped cs (page_checks s r s.skeleton.pending) b.next);
        }

    stops-behind : (n : ℕ) {x : Answer} → Behind (stop_checks s r) x → (x ≡ stopped n) ↔ First n (stop_checks s r)
    unfolding onward
    stops-behind n b =
        let e = decide_exactly stopped (stop_checks s r) b.next n (λ _ m z. true≢false (sym b.goes ∙ ap onward z)) (λ m k z. cc) in
        (λ z. e.0 (sym b.is ∙ z), λ f. b.is ∙ e.1 f)

    abbrev Stops : ℕ → Type 0
    Stops n = Passed (event_checks c s.skeleton (reply r a q)) × (tells_full c.width r s.skeleton.pending ≡ false) × First n (stop_checks s r)

    pub stopped_exactly : (n : ℕ) → (answer ≡ stopped n) ↔ Stops n
    unfolding event_checks event_action
    stopped_exactly n = (
      λ z.
          decide_ind refused (λ x. x ≡ stopped n → Stops n)
          (event_checks c s.skeleton (reply r a q)) (answer_to (event_action c s.skeleton (reply r a q)))
          (λ m f y. absurd (let u : ◌≡◌ {A = ℕ} 0 1 = cc in omega arith))
          (λ p y. (p, said y, (stops-behind n (acted (running p) (said y))).0 y)) (sym judged ∙ z),
      λ w. judged ∙ decide_passed refused _ _ w.0 ∙ (stops-behind n (acted (running w.0) w.1)).1 w.2,
    )
      where
        said : answer_to (event_action c s.skeleton (reply r a q)) ≡ stopped n → tells_full c.width r s.skeleton.pending ≡ false
        said y = go (is (tells_full c.width r s.skeleton.pending))
          where
            go : Is (tells_full c.width r s.skeleton.pending) → tells_full c.width r s.skeleton.pending ≡ false
            go (is_f e) = e
            go (is_t e) = absurd (full_never s.skeleton.pending n (sym (ap answer_to (pick_true _ _ _ e)) ∙ y))

        running : Passed (event_checks c s.skeleton (reply r a q)) → is_idle s.skeleton.pending ≡ false
        running (both _ (both i _)) = i

  -- An event that is not refused: none of its numbers held.
  unfoldable pub is_refusal : Answer → Bool
  is_refusal (done n b) = false
  is_refusal (ask q) = false
  is_refusal (refused n) = true
  is_refusal (stopped n) = false

  pub not_refused : (s : State S) (e : Event) → is_refusal (step c S s e).outcome.answer ≡ false → Passed (event_checks c s.skeleton e)
  unfolding step judge apply is_refusal
  not_refused s e =
      decide_ind refuse (λ m. is_refusal (apply c S s m).outcome.answer ≡ false → Passed (event_checks c s.skeleton e)) (event_checks c s.skeleton e) (event_action c s.skeleton e)
      (λ n f h. absurd (true≢false h)) (λ p h. p)

  abbrev Room : (answer request : ℕ) → Type 0
  Room a q = (answer_length c ≤ a) × (request_length c ≤ q)

  room : (a q : ℕ) → (ltb a (answer_length c) || ltb q (request_length c)) ≡ false → Room a q
  room a q h = (ltb-false _ _ (or_fst _ _ h), ltb-false _ _ (or_snd (ltb a (answer_length c)) _ h))

  -- a call or a reply that is not refused had both buffers long enough; a save that is done fits its buffer
  pub call_has_room : (s : State S) (b : List ℕ) (a q : ℕ) → is_refusal (step c S s (call b a q)).outcome.answer ≡ false → Room a q
  unfolding event_checks
  call_has_room s b a q h = go (not_refused s (call b a q) h)
    where
      go : Passed (event_checks c s.skeleton (call b a q)) → Room a q
      go (both _ (both _ (both x _))) = room a q x

  pub reply_has_room : (s : State S) (r : List ℕ) (a q : ℕ) → is_refusal (step c S s (reply r a q)).outcome.answer ≡ false → Room a q
  unfolding event_checks
  reply_has_room s r a q h = go (not_refused s (reply r a q) h)
    where
      go : Passed (event_checks c s.skeleton (reply r a q)) → Room a q
      go (both _ (both _ (both x _))) = room a q x

  pub save_has_room : (s : State S) (n : ℕ) → is_refusal (step c S s (save n)).outcome.answer ≡ false
      → image_length (saved c.width) s.skeleton.tables.nodes ≤ n
  unfolding event_checks
  save_has_room s n h = go (not_refused s (save n) h)
    where
      go : Passed (event_checks c s.skeleton (save n))
          → image_length (saved c.width) s.skeleton.tables.nodes ≤ n
      go (both _ (both _ (both _ (both x _)))) = ltb-false _ _ x
