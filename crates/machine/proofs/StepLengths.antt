-- Buffers of the least lengths always suffice; and a read that is done gives just the bytes that it names.
-- Assumes nothing.
use Rattle.std.proofs.Math.Path.{◌≡◌, refl, sym, subst}
use Rattle.std.proofs.Common.{ap, ◌∙◌}
use Rattle.std.specs.Prelude.{true, ltb, leb, get_or}
use Rattle.std.proofs.lemmas.Bool.{false≢true}
use mathlib.Core.List.{List, [], ◌∷◌, ◌++◌}
use Prim.Native.Nat.{ℕ, suc, ◌+◌, ◌-◌, ◌*◌, ◌≤◌, ◌<◌, min, max}
use native.Mathlib.Omega.{arith}
use Rattle.std.proofs.Math.ListN.{length}
use borrow.Author.Tests.{leb-true, leb-false}
use Rattle.lists.specs.Pick.{pick_ind}
use Rattle.lists.specs.Equal.{equal}
use Rattle.lists.specs.All.{All, both, none as all_none}
use Rattle.lists.specs.LittleEndian.{encode}
use Rattle.lists.specs.Checks.{decide_ind}
use Rattle.filesystem.specs.Tables.{DATA_BYTES, PAGE_BYTES}
use Rattle.filesystem.specs.ImageLaws.{Digest}
use Rattle.rules.specs.Pages.{page_at, page_part, Change, writing, first, last, fetches, size_sent, cuts, number_of}
use Rattle.rules.specs.Requests.{store_length, cut_request, reading}
use Rattle.rules.specs.Skeleton.{Config, Event, reply, EventBytes, done, answer_bytes, request_bytes, answer_length, request_length}
use Rattle.rules.specs.Rules.{Move, refuse, halt, send, finish, add, delete, remap, read_page, begin, fill_page, stored, cut_done, keep_pages, give_up, saving, loading, reasons, reply_action, tells_full, event_checks, event_action, judge}
use Rattle.machine.specs.Machine.{Store, State, Result, Gathered, content_at, size_at, descriptor_at, read_on, finish_change, pages_stored, ask_store, on_page, pages_from, cleared, apply, step, fresh, final, guard}
use Rattle.rules.specs.Valid.{PendingFits, ReadingFits, Valid, Plain, Fits, f_refuse, f_halt, f_send, f_finish, f_add, f_delete, f_remap, f_read_page, f_begin, f_fill_page, f_stored, f_cut_done, f_keep_pages, f_give_up, f_saving, f_loading}
use Rattle.rules.proofs.FitLaws.{judge_fits}
use Rattle.machine.proofs.StateProperties.{step_holds, always_holds, always_valid}
use Rattle.machine.specs.Held.{Holds}
use Rattle.rules.specs.Modest.{Gathers, Modest}
use Rattle.rules.proofs.Lengths.{fetch_short, store_length_lem, judge_modest, page_long, gather_more}

-- Requests, whatever is kept of pages, where the pages that go out have their length.
module _ (c : Config) (S : Store) (long : (x : S.Content) (q : Change) (i : ℕ) (r : List ℕ) → length (S.page_for x q i r) ≡ PAGE_BYTES) where
  abbrev Short : Result S → Type 0
  Short r = length (request_bytes r.outcome.answer) ≤ request_length c

  store_short : (s : State S) (k o : ℕ) (q : Change) (i : ℕ) (r : List ℕ) → Short (ask_store c S s k o q i r)
  unfolding ask_store request_bytes request_length
  store_short s k o q i r =
      let x = content_at c S s k in
      let z = store_length_lem (descriptor_at c S s o) i (size_sent q (size_at c S s k) i) (S.page_for x q i r) (long x q i r) in
      omega arith

  pages-short : (s : State S) (k o : ℕ) (q : Change) (i : ℕ) → Short (pages_from c S s k o q i)
  unfolding pages_from on_page pages_stored finish_change request_bytes request_length store_length
  pages-short s k o q i =
      pick_ind Short (ltb i (last q)) (λ _. pick_ind Short (fetches q (size_at c S s k) i) (λ _. fetch_short c _ i) (λ _. store_short s k o q i []))
      (λ _. pick_ind Short (cuts q) (λ _. unfold cut_request encode in omega arith) (λ _. omega arith))

  move-short : (s : State S) (m : Move) → Modest c m → Short (apply c S s m)
  unfolding apply read_on finish_change request_bytes request_length store_length
  move-short s (refuse n) h = omega arith
  move-short s (halt n) h = omega arith
  move-short s (send p q) h = h.0
  move-short s (finish t n b) h = omega arith
  move-short s (add n) h = omega arith
  move-short s (delete k) h = omega arith
  move-short s (remap x) h = omega arith
  move-short s (read_page k o p n i r) h =
      pick_ind Short (S.is_page (content_at c S s k) i r)
      (λ _. pick_ind Short (leb (p + n) (i * 1024 + 1024)) (λ _. omega arith) (λ _. fetch_short c _ (suc i))) (λ _. omega arith)
  move-short s (begin k o q) h = pages-short (cleared c S s) k o q (first q)
  move-short s (fill_page k o q i r) h = pick_ind Short (S.is_page (content_at c S s k) i r) (λ _. store_short s k o q i r) (λ _. omega arith)
  move-short s (stored k o q i) h = pages-short s k o q (suc i)
  move-short s (cut_done k o q) h = omega arith
  move-short s (keep_pages k o q i) h = omega arith
  move-short s give_up h = omega arith
  move-short s saving h = omega arith
  move-short s (loading i d) h = omega arith

  -- at most 1,037 bytes, at any width
  pub request_fits : (s : State S) → Valid c.width s.skeleton → (e : Event) → EventBytes e
      → length (request_bytes (step c S s e).outcome.answer) ≤ request_length c
  unfolding step
  request_fits s v e b = move-short s (judge c s.skeleton e) (judge_modest c s.skeleton v e b)

pub guard_request_fits : (c : Config) (g : State (guard c)) → Valid c.width g.skeleton → (e : Event) → EventBytes e
    → length (request_bytes (step c (guard c) g e).outcome.answer) ≤ request_length c
guard_request_fits c = request_fits c (guard c) (λ x q i r. page_long q i r)

-- Answers of the guard.
module _ (c : Config) where
  abbrev Reads : State (guard c) → Type 0
  Reads g = Gathers g.skeleton.pending g.progress.bytes

  -- the state goes on reading so, and the answer fits
  record Gives (e : Event) (r : Result (guard c)) : Type 0 where
    reads : Reads r.state
    fits : Plain e → length (answer_bytes r.outcome.answer) ≤ answer_length c

  silent : {e : Event} {r : Result (guard c)} → Reads r.state → answer_bytes r.outcome.answer ≡ [] → Gives e r
  silent h q = record { reads = h; fits = λ _. rw q (omega arith) }

  module _ (e : Event) where
    pages_give : (g : State (guard c)) (k o : ℕ) (q : Change) (i : ℕ) → Gives e (pages_from c (guard c) g k o q i)
    unfolding pages_from on_page ask_store pages_stored finish_change answer_bytes
    pages_give g k o q i =
        pick_ind (Gives e) (ltb i (last q)) (λ _. pick_ind (Gives e) (fetches q (size_at c (guard c) g k) i) (λ _. silent tt refl) (λ _. silent tt refl))
        (λ _. pick_ind (Gives e) (cuts q) (λ _. silent tt refl) (λ _. silent tt refl))

    read-gives : (g : State (guard c)) (k o p n i : ℕ) (a : Gathered) → n ≤ DATA_BYTES → length a.bytes ≡ min (p + n) (i * 1024 + 1024) - p → page_at p ≤ i
        → Gives e (read_on c (guard c) g k o p n i a)
    unfolding read_on answer_bytes answer_length page_at
    read-gives g k o p n i a most l from =
        pick_ind (Gives e) (leb (p + n) (i * 1024 + 1024))
        (λ _. let z : length a.bytes ≤ 255 * (c.width + 34) = omega arith in record { reads = tt; fits = λ _. z })
        (λ x. let z : i * 1024 + 1024 < p + n = leb-false _ _ x in let y : length a.bytes ≡ max p (suc i * 1024) - p = omega arith in silent (most, y) refl)

    move_gives : (g : State (guard c)) → Reads g → {m : Move} → Modest c m → Fits c g.skeleton e m → Gives e (apply c (guard c) g m)
    unfolding apply finish_change ask_store answer_bytes
    move_gives g h d (f_refuse f) = silent h refl
    move_gives g h d (f_halt he y f) = silent tt refl
    move_gives g h d (f_send x st k) = silent d.1 refl
    move_gives g h d (f_finish pl v z) = record { reads = tt; fits = λ _. d }
    move_gives g h d (f_add pl z v) = silent tt refl
    move_gives g h d (f_delete pl v) = silent tt refl
    move_gives g h d (f_remap pl) = silent tt refl
    move_gives g h d (f_read_page {k = k} {o = o} {p = p} {n = n} {i = i} {r = r} he w l x) =
        let (most, len) = subst (λ q. Gathers q g.progress.bytes) w h in
        pick_ind (Gives e) _ (λ _. read-gives g k o p n i _ most (gather_more g.progress.bytes r p n i len x.from x.to) x.from) (λ _. silent tt refl)
    move_gives g h d (f_begin {k = k} {o = o} {q = q} pl x) = pages_give (cleared c (guard c) g) k o q (first q)
    move_gives g h d (f_fill_page he w l x) = pick_ind (Gives e) _ (λ _. silent tt refl) (λ _. silent tt refl)
    move_gives g h d (f_stored {k = k} {o = o} {q = q} {i = i} pl w x) = pages_give g k o q (suc i)
    move_gives g h d (f_cut_done pl w x) = silent tt refl
    move_gives g h d (f_keep_pages pl w x s l) = silent tt refl
    move_gives g h d (f_give_up he f) = silent tt refl
    move_gives g h d (f_saving he w z) = record { reads = tt; fits = λ pl. absurd (subst Plain he pl) }
    move_gives g h d (f_loading he z hd hp) = silent tt refl

  module _ (g : State (guard c)) (v : Valid c.width g.skeleton) (h : Gathers g.skeleton.pending g.progress.bytes) where
    step_gives : (e : Event) → EventBytes e → Gives e (step c (guard c) g e)
    unfolding step
    step_gives e b = move_gives e g h (judge_modest c g.skeleton v e b) (judge_fits c g.skeleton v e b)

    pub step_gathers : (e : Event) → EventBytes e → Gathers (step c (guard c) g e).state.skeleton.pending (step c (guard c) g e).state.progress.bytes
    step_gathers e b = (step_gives e b).reads

    -- an answer to a call or a reply fits its buffer
    pub answer_fits : (e : Event) → EventBytes e → Plain e → length (answer_bytes (step c (guard c) g e).outcome.answer) ≤ answer_length c
    answer_fits e b pl = (step_gives e b).fits pl

    -- a read that is done names the bytes that it gives, as many as were to be read
    module _ (k o p n i : ℕ) (w : g.skeleton.pending ≡ reading k o p n i) where
      abbrev Counts : Result (guard c) → Type 0
      Counts r = (m : ℕ) (b : List ℕ) → r.outcome.answer ≡ done m b → (m ≡ n) × (length b ≡ n)

      page_counts : (r : List ℕ) → Counts (apply c (guard c) g (read_page k o p n i r))
      unfolding apply read_on
      page_counts r =
          let (most, len) = subst (λ q. Gathers q g.progress.bytes) w h in
          let x : ReadingFits g.skeleton.tables.nodes g.skeleton.tables.opens k o p n i = subst (PendingFits g.skeleton.tables.nodes g.skeleton.tables.opens) w v.pending in
          let all = gather_more g.progress.bytes r p n i len x.from x.to in
          pick_ind Counts (equal (c.digest r) (get_or (get_or g.contents k []) i []))
          (λ _. pick_ind Counts (leb (p + n) (i * 1024 + 1024))
          (λ y m b q. let z : p + n ≤ i * 1024 + 1024 = leb-true _ _ y in let em : n ≡ m = cc in let eb : g.progress.bytes ++ page_part r p n i ≡ b = cc in (sym em, sym (ap length eb) ∙ (all ∙ omega arith)))
          (λ _ m b q. absurd (let z : ◌≡◌ {A = ℕ} 0 1 = cc in omega arith)))
          (λ _ m b q. absurd (let z : ◌≡◌ {A = ℕ} 0 1 = cc in omega arith))

      pub read_counts : (r : List ℕ) (a q m : ℕ) (b : List ℕ) → (step c (guard c) g (reply r a q)).outcome.answer ≡ done m b → (m ≡ n) × (length b ≡ n)
      unfolding step judge event_checks event_action
      read_counts r a q =
          decide_ind refuse (λ m. Counts (apply c (guard c) g m)) (event_checks c g.skeleton (reply r a q)) _
          (λ j f m b e. unfold apply in absurd (let z : ◌≡◌ {A = ℕ} 0 1 = cc in omega arith))
          (λ _. pick_ind (λ m. Counts (apply c (guard c) g m)) (tells_full c.width r g.skeleton.pending)
          (λ y. absurd (false≢true (subst (λ p. tells_full c.width r p ≡ true) w y)))
          (λ y. decide_ind halt (λ m. Counts (apply c (guard c) g m)) (reasons c.width g.skeleton r) _
          (λ j f m b e. unfold apply in absurd (let z : ◌≡◌ {A = ℕ} 0 1 = cc in omega arith))
          (λ _. subst (λ y. Counts (apply c (guard c) g (reply_action c.width g.skeleton.tables r y))) (sym w) (unfold reply_action in page_counts r))))

pub write_counts : (c : Config) (S : Store) (s : State S) (k o p : ℕ) (d : List ℕ) → (finish_change c S s k o (writing p d)).outcome.answer ≡ done (length d) []
unfolding finish_change number_of
write_counts c S s k o p d = refl

-- Along every run of the guard.
module _ (c : Config) (digest_fits : (s : List ℕ) → Digest (c.digest s)) where
  run_gathers : (g : State (guard c)) (es : List Event) → All EventBytes es → Holds c g → Gathers g.skeleton.pending g.progress.bytes
      → Gathers (final c (guard c) g es).skeleton.pending (final c (guard c) g es).progress.bytes
  unfolding final
  run_gathers g [] a v h = h
  run_gathers g (e ∷ es) (both b a) v h = run_gathers (step c (guard c) g e).state es a (step_holds c digest_fits g e b v) (step_gathers c g v.valid h e b)

  module _ (wide : 1 ≤ c.width) (es : List Event) (a : All EventBytes es) where
    abbrev here : State (guard c)
    here = final c (guard c) (fresh c (guard c)) es

    pub always_gathers : Gathers here.skeleton.pending here.progress.bytes
    unfolding final
    always_gathers = run_gathers (fresh c (guard c)) es a (always_holds c digest_fits wide [] all_none) tt

    -- buffers of the least lengths suffice
    pub always_fits : (e : Event) → EventBytes e → Plain e
        → (length (answer_bytes (step c (guard c) here e).outcome.answer) ≤ answer_length c) × (length (request_bytes (step c (guard c) here e).outcome.answer) ≤ request_length c)
    always_fits e b pl =
        let v = always_valid c digest_fits wide es a in
        (answer_fits c here v always_gathers e b pl, guard_request_fits c here v e b)
