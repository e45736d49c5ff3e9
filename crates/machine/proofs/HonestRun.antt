-- The claim, second half (SPECIFICATION 10.5): under a host that is honest throughout nothing stops, and guard and tree agree. No collision is spoken of.
use Rattle.std.specs.Prelude.{◌≡◌, ◌⊎◌, true, ℕ, suc, ◌+◌, ◌*◌, eqb, ltb, leb, get_or}
use Rattle.std.proofs.Math.Path.{refl, ap, subst}
use Rattle.std.proofs.Common.{sym, ◌∙◌, arith, eq-eqb}
use Rattle.std.proofs.Math.Logic.{inl, inr}
use Rattle.std.proofs.Math.Bool.{true≢false, not}
use mathlib.Core.List.{List, [], ◌∷◌}
use Rattle.std.proofs.Math.Option.{some}
use Rattle.std.proofs.Math.ListN.{length}
use Rattle.lists.specs.Pick.{pick_ind, pick_true}
use Rattle.lists.specs.Equal.{equal, equal_true, equal_refl, and_both}
use Rattle.lists.specs.All.{All, both, none as all_none, all_head, all_tail, all_append}
use Rattle.lists.specs.Cells.{length-tab}
use Rattle.lists.specs.Checks.{Check, First, here, later, Passed}
use Rattle.filesystem.specs.Image.{Image, saved, Version, current, layout_of, parse}
use Rattle.rules.specs.Pages.{page_of, Change, first, last, fetches, cuts, stores_more, cuts_more}
use Rattle.rules.specs.Requests.{asked, Pending, idle, creating, opening, closing, removing, changing, listing, stating, mapping, unmapping, reading, fetching, storing, cutting}
use Rattle.rules.specs.Requests.{renaming}
use Rattle.rules.specs.Skeleton.{Config, Event, reply, EventBytes}
use Rattle.rules.specs.Rules.{Move, loading, judge, says_full, tells_full, reply_checks, map_reasons, reasons}
use Rattle.machine.specs.Machine.{State, Result, read_on, finish_change, pages_stored, ask_store, on_page, pages_from}
use Rattle.machine.specs.Machine.{cleared, apply, step, fresh, outcomes, final, guard}
use Rattle.rules.specs.Valid.{Valid, Fits, f_refuse, f_halt, f_send, f_finish, f_add, f_delete, f_remap, f_read_page, f_begin, f_fill_page, f_stored, f_cut_done, f_keep_pages, f_give_up, f_saving, f_loading}
use Rattle.rules.proofs.FitLaws.{judge_fits}
use Rattle.rules.proofs.MapLaws.{right_map}
use Rattle.rules.proofs.FullLaws.{right_full}
use Rattle.rules.proofs.ReplyLaws.{right_id, right_descriptor, right_status, right_stat, right_listing}
use Rattle.machine.specs.Tree.{Saved, lookup, go_back, tree, guard_of}
use Rattle.machine.specs.Honest.{RightFor, Right}
use Rattle.machine.specs.Claim.{Fit, is_done, is_stop, NoStop, OfLatest, HonestAt, Honest, Agrees, SecondHalf}
use Rattle.machine.proofs.Simulation.{result_of, SamePage, Agree}
use Rattle.machine.proofs.Invariant.{Kept, GoodSave}
use Rattle.machine.proofs.Run.{read_back, Holds, advance, fresh_holds, fresh_guard_lem}

-- the history does not matter here
abbrev pub Any : List ℕ → Type 0
Any p = Unit {0}

module _ (c : Config) (fit : Fit c) where
  -- a page has its length
  page_long : (t : State (tree c)) (k i : ℕ) (r : List ℕ) → r ≡ page_of (get_or t.contents k []) i → Passed ((1, not (eqb (length r) 1024)) ∷ [])
  unfolding page_of
  page_long t k i r e = both (ap not (eq-eqb _ _ (ap length e ∙ length-tab 1024 _))) all_none

  -- a right reply passes every check, or says that the disk is full where it may
  abbrev Goes : State (tree c) → List ℕ → Pending → Type 0
  Goes t r p = (tells_full c.width r p ≡ true) ⊎ Passed (reply_checks c.width t.skeleton.tables r p)

  right_passes : (t : State (tree c)) (r : List ℕ) → Valid c.width t.skeleton → (p : Pending) → RightFor c t r p → Goes t r p
  unfolding RightFor
  right_passes t r v idle h = inr (unfold reply_checks in all_none)
  right_passes t r v (asked (creating p k m name)) (inl h) = inr (right_id c.width t.skeleton.tables r p k m name h)
  right_passes t r v (asked (creating p k m name)) (inr h) = inl (right_full c.width r h)
  right_passes t r v (asked (opening k rights)) h = inr (right_descriptor c.width t.skeleton.tables r k rights h)
  right_passes t r v (asked (closing o)) h = inr (unfold reply_checks in right_status c.width t.skeleton.tables r 0 (omega arith) h)
  right_passes t r v (asked (removing k)) h = inr (unfold reply_checks in right_status c.width t.skeleton.tables r 0 (omega arith) h)
  right_passes t r v (asked (changing k m)) h = inr (unfold reply_checks in right_status c.width t.skeleton.tables r 0 (omega arith) h)
  right_passes t r v (asked (listing k)) h = inr (right_listing c.width t.skeleton.tables r k v.tables.nodes_valid h)
  right_passes t r v (asked (stating k)) h = inr (right_stat c.width t.skeleton.tables r k h)
  right_passes t r v (asked (mapping n)) h = inr (unfold reply_checks in both (ap not (eq-eqb _ _ (right_map t.skeleton.maps n r h).0)) all_none)
  right_passes t r v (asked (unmapping a)) h = inr (unfold reply_checks in right_status c.width t.skeleton.tables r 0 (omega arith) h)
  right_passes t r v (asked (renaming k p name)) h =
      inr (unfold reply_checks in right_status c.width t.skeleton.tables r 0 (omega arith) h)
  right_passes t r v (reading k o p n i) h = inr (unfold reply_checks in page_long t k i r h)
  right_passes t r v (fetching k o q i) h = inr (unfold reply_checks in page_long t k i r h)
  right_passes t r v (storing k o q i) (inl h) = inr (unfold reply_checks in right_status c.width t.skeleton.tables r 1024 (omega arith) h)
  right_passes t r v (storing k o q i) (inr (s, h)) = inl (and_both (stores_more q) (says_full 4 r) s (right_full 4 r h))
  right_passes t r v (cutting k o q) (inl h) = inr (unfold reply_checks in right_status c.width t.skeleton.tables r 0 (omega arith) h)
  right_passes t r v (cutting k o q) (inr (s, h)) = inl (and_both (cuts_more q) (says_full 4 r) s (right_full 4 r h))

  -- and those of maps
  maps_pass : (t : State (tree c)) (r : List ℕ) (p : Pending) → RightFor c t r p → Passed (map_reasons t.skeleton.maps r p)
  unfolding RightFor map_reasons
  maps_pass t r idle h = all_none
  maps_pass t r (asked (creating p k m name)) h = all_none
  maps_pass t r (asked (opening k rights)) h = all_none
  maps_pass t r (asked (closing o)) h = all_none
  maps_pass t r (asked (removing k)) h = all_none
  maps_pass t r (asked (changing k m)) h = all_none
  maps_pass t r (asked (listing k)) h = all_none
  maps_pass t r (asked (stating k)) h = all_none
  maps_pass t r (asked (mapping n)) h = (right_map t.skeleton.maps n r h).1
  maps_pass t r (asked (unmapping a)) h = all_none
  maps_pass t r (asked (renaming k p name)) h = all_none
  maps_pass t r (reading k o p n i) h = all_none
  maps_pass t r (fetching k o q i) h = all_none
  maps_pass t r (storing k o q i) h = all_none
  maps_pass t r (cutting k o q) h = all_none

  passed_not_first : (n : ℕ) (cs : List Check) → Passed cs → First n cs → ⊥
  passed_not_first n cs p f = go p f
    where
      go : {cs : List Check} → Passed cs → First n cs → ⊥
      go (both e p) here = true≢false e
      go (both e p) (later f) = go p f
      go all_none f = elim f [ ]

  abbrev Calm : Result (tree c) → Type 0
  Calm r = NoStop r.outcome

  calm_pages : (t : State (tree c)) (k o : ℕ) (q : Change) (i : ℕ) → Calm (pages_from c (tree c) t k o q i)
  unfolding pages_from on_page ask_store pages_stored finish_change is_stop
  calm_pages t k o q i =
      pick_ind Calm (ltb i (last q)) (λ _. pick_ind Calm (fetches q _ i) (λ _. refl) (λ _. refl)) (λ _. pick_ind Calm (cuts q) (λ _. refl) (λ _. refl))

  -- the page that a right reply brings
  page_right : (t : State (tree c)) (p : Pending) (r : List ℕ) (k i : ℕ) → Right c t r → t.skeleton.pending ≡ p
      → (RightFor c t r p → r ≡ page_of (get_or t.contents k []) i)
      → equal r (page_of (get_or t.contents k []) i) ≡ true
  unfolding Right
  page_right t p r k i ri w f = rw (f (subst (RightFor c t r) w ri)) (equal_refl (page_of (get_or t.contents k []) i))

  right_reply : (g : State (guard c)) (t : State (tree c)) (e : Event) (r : List ℕ) (a q : ℕ) → HonestAt c g t e → e ≡ reply r a q → Right c t r
  unfolding HonestAt
  right_reply g t e r a q ho he = rw he at ho

  calm : (g : State (guard c)) (t : State (tree c)) → Valid c.width t.skeleton → {m : Move} {e : Event} → Fits c t.skeleton e m → HonestAt c g t e
      → Calm (apply c (tree c) t m)
  unfolding apply is_stop read_on ask_store finish_change
  calm g t v (f_refuse f) ho = refl
  calm g t v {e = e} (f_halt {n = n} {r = r} {a = a} {q = q} he y f) ho =
      let h : RightFor c t r t.skeleton.pending = unfold Right in right_reply g t e r a q ho he in
      absurd (go (right_passes t r v t.skeleton.pending h) (maps_pass t r t.skeleton.pending h))
    where
      go : Goes t r t.skeleton.pending → Passed (map_reasons t.skeleton.maps r t.skeleton.pending) → ⊥
      go (inl x) _ = true≢false (sym x ∙ y)
      go (inr p) z = passed_not_first n (reasons c.width t.skeleton r) (unfold reasons in all_append p z) f
  calm g t v (f_send h s k) ho = refl
  calm g t v (f_finish pl h s) ho = refl
  calm g t v (f_add pl z h) ho = refl
  calm g t v (f_delete pl h) ho = refl
  calm g t v (f_remap pl) ho = refl
  calm g t v {e = e} (f_read_page {k = k} {o = o} {p = p} {n = n} {i = i} {r = r} {a = a} {q = q} he w l h) ho =
      pick_ind Calm _ (λ _. pick_ind Calm (leb (p + n) (i * 1024 + 1024)) (λ _. refl) (λ _. refl))
      (λ x. absurd (true≢false (sym (page_right t (reading k o p n i) r k i (right_reply g t e r a q ho he) w (λ y. unfold RightFor in y)) ∙ x)))
  calm g t v (f_begin {k = k} {o = o} {q = q} pl h) ho = calm_pages (cleared c (tree c) t) k o q (first q)
  calm g t v {e = e} (f_fill_page {k = k} {o = o} {q = q} {i = i} {r = r} {a = a} {b = b} he w l h) ho =
      pick_ind Calm _ (λ _. refl)
      (λ x. absurd (true≢false (sym (page_right t (fetching k o q i) r k i (right_reply g t e r a b ho he) w (λ y. unfold RightFor in y)) ∙ x)))
  calm g t v (f_stored {k = k} {o = o} {q = q} {i = i} pl w h) ho = calm_pages t k o q (suc i)
  calm g t v (f_cut_done pl w h) ho = refl
  calm g t v (f_keep_pages pl w h s l) ho = refl
  calm g t v (f_give_up he f) ho = refl
  calm g t v (f_saving he w z) ho = refl
  calm g t v (f_loading he z hd hp) ho = refl

  same_page : (r p : List ℕ) → equal r p ≡ true → SamePage c r p
  same_page r p e = rw (equal_true r p e, equal_refl p, equal_refl (c.digest p))

  lookup_head : (s : Saved) (ss : List Saved) (d : List ℕ) → d ≡ s.digest → lookup (s ∷ ss) d ≡ some s
  unfolding lookup
  lookup_head s ss d e = rw e (pick_true _ _ _ (equal_refl s.digest))

  -- a load of the latest save
  sure_load : (t : State (tree c)) → Kept c Any Any t → (k : Version) (i : Image) (image d : List ℕ)
      → parse (layout_of c.width k) image ≡ some i → OfLatest c t image d → Agree c t (loading i d)
  unfolding go_back layout_of
  sure_load t v current i image d hp o =
      let gs : GoodSave c Any Any o.latest = all_head (subst (All (GoodSave c Any Any)) o.saves v.saves) in
      rw (o.saves, lookup_head o.latest o.earlier d o.digest)
      (read_back c fit Any Any o.latest.files gs.good gs.valid i
      (subst (λ x. parse (saved c.width) x ≡ some i) o.image hp))

  sure : (t : State (tree c)) → Kept c Any Any t → {m : Move} {e : Event} → Fits c t.skeleton e m → HonestAt c (guard_of c t) t e
      → judge c t.skeleton e ≡ m → Agree c t m
  unfolding HonestAt step apply guard_of is_done
  sure t v (f_refuse f) ho mq = tt
  sure t v (f_halt he y f) ho mq = tt
  sure t v (f_send h s k) ho mq = tt
  sure t v (f_finish pl h s) ho mq = tt
  sure t v (f_add pl z h) ho mq = tt
  sure t v (f_delete pl h) ho mq = tt
  sure t v (f_remap pl) ho mq = tt
  sure t v {e = e} (f_read_page {k = k} {o = o} {p = p} {n = n} {i = i} {r = r} {a = a} {q = q} he w l h) ho mq =
      same_page r _ (page_right t (reading k o p n i) r k i (right_reply (guard_of c t) t e r a q ho he) w (λ y. unfold RightFor in y))
  sure t v (f_begin pl h) ho mq = tt
  sure t v {e = e} (f_fill_page {k = k} {o = o} {q = q} {i = i} {r = r} {a = a} {b = b} he w l h) ho mq =
      same_page r _ (page_right t (fetching k o q i) r k i (right_reply (guard_of c t) t e r a b ho he) w (λ y. unfold RightFor in y))
  sure t v (f_stored pl w h) ho mq = tt
  sure t v (f_cut_done pl w h) ho mq = tt
  sure t v (f_keep_pages pl w h s l) ho mq = tt
  sure t v (f_give_up he f) ho mq = tt
  sure t v (f_saving he w z) ho mq = tt
  sure t v {e = e} (f_loading {i = i} {v = k} {image = image} {d = d} he z hd hp) ho mq =
      sure_load t v k i image d hp ((rw he at ho) (rw (rw he at mq) tt))

  -- one event of an honest list
  pub together : (g : State (guard c)) (t : State (tree c)) (e : Event) → g ≡ guard_of c t → Holds c fit Any Any t → EventBytes e → HonestAt c g t e
      → (step c (guard c) g e ≡ result_of c (step c (tree c) t e)) × Holds c fit Any Any (step c (tree c) t e).state
  unfolding step
  together g t e q h b ha =
      let f = judge_fits c t.skeleton h.valid e b in
      let (x, h₂, k) = advance c fit Any Any t h e b ((λ p m. tt), (λ q p m. tt)) (λ p m. tt) (sure t h.kept f (subst (λ s. HonestAt c s t e) q ha) refl) in
      (ap (λ s. step c (guard c) s e) q ∙ x, h₂)

  -- from any tree on that is as it has to be
  pub quiet : (es : List Event) (g : State (guard c)) (t : State (tree c)) → g ≡ guard_of c t → Holds c fit Any Any t → All EventBytes es → Honest c g t es
      → All NoStop (outcomes c (guard c) g es)
      × ((outcomes c (guard c) g es ≡ outcomes c (tree c) t es) × (final c (guard c) g es ≡ guard_of c (final c (tree c) t es)))
  unfolding outcomes final Honest step result_of
  quiet [] g t q h bs ho = (all_none, (refl, q))
  quiet (e ∷ es) g t q h bs (ha, ho) =
      let f = judge_fits c t.skeleton h.valid e (all_head bs) in
      let ha₂ : HonestAt c (guard_of c t) t e = subst (λ s. HonestAt c s t e) q ha in
      let (y, h₂) = together g t e q h (all_head bs) ha in
      let yo : (step c (guard c) g e).outcome ≡ (step c (tree c) t e).outcome = ap (λ r. r.outcome) y in
      let (ns, (eos, ef)) = quiet es (step c (guard c) g e).state (step c (tree c) t e).state (ap (λ r. r.state) y) h₂ (all_tail bs) ho in
      (both (ap (λ o. is_stop o.answer) yo ∙ calm (guard_of c t) t h.valid f ha₂) ns, ((λ j. yo j ∷ eos j), ef))

  pub second_half : SecondHalf c
  unfolding SecondHalf Agrees
  second_half es bs ho = quiet es (fresh c (guard c)) (fresh c (tree c)) (fresh_guard_lem c fit) (fresh_holds c fit Any Any) bs ho
