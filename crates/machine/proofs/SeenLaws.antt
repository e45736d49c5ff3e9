-- What a run of the guard shows, in the words of specs/Seen.antt: the same history, the same loads, the same honest host as in specs/Claim.antt;
-- and that only a save gives a digest.
-- Assumes nothing.
use Rattle.std.specs.Prelude.{◌≡◌, false, ℕ, suc, ◌+◌, ◌*◌, ltb, leb, length, get_or}
use Rattle.std.proofs.Math.Path.{refl, ap, ap₂}
use Rattle.std.proofs.Common.{◌∙◌, subst}
use mathlib.Core.List.{List, [], ◌∷◌, ◌++◌}
use Rattle.std.proofs.Math.Dec.{eqb}
use Rattle.lists.specs.Pick.{pick, pick-false, pick_ind}
use Rattle.lists.specs.Equal.{equal}
use Rattle.lists.specs.All.{both, none as all_none}
use Rattle.lists.specs.Checks.{First, decide_ind}
use Rattle.filesystem.specs.Tables.{PAGE_BYTES}
use Rattle.rules.specs.Pages.{Change, first, last, fetches, cuts}
use Rattle.rules.specs.Requests.{is_fetch, fetch_request, store_request, cut_request, asked, Pending, idle, reading, fetching, storing, cutting}
use Rattle.rules.specs.Skeleton.{Config, Event, call, reply, save, load, EventBytes, Outcome, done, refused, plain}
use Rattle.rules.specs.Rules.{Move, refuse, event_checks, event_action, judge}
use Rattle.rules.specs.Valid.{Valid, Asks, Starts, Fits, f_refuse, f_halt, f_send, f_finish, f_add, f_delete, f_remap, f_read_page, f_begin, f_fill_page, f_stored, f_cut_done, f_keep_pages, f_give_up, f_saving, f_loading}
use Rattle.rules.proofs.Outcomes.{first-has}
use Rattle.rules.proofs.FitLaws.{judge_fits}
use Rattle.machine.specs.Machine.{Store, State, Result, content_at, size_at, image_of, read_on, finish_change, pages_stored, ask_store, on_page, pages_from, cleared, apply, step, outcomes, guard}
use Rattle.machine.specs.Tree.{tree}
use Rattle.machine.specs.History.{awaits_page, page_in, image_in, image_out, images}
use Rattle.machine.specs.Claim.{LoadOf, LoadsOfSaves, HonestAt, Honest, given}
use Rattle.machine.specs.Seen.{Seen, events, answers, shown, left_by, standing, page_replied, images_seen, LoadsSeen, HonestIn, HonestSeen}

-- what was handed in, with the outcomes of a run, is what the run shows
pub shown-is : (c : Config) (S : Store) (s : State S) (xs : List Seen) → answers xs ≡ outcomes c S s (events xs) → xs ≡ shown c S s (events xs)
unfolding shown outcomes
shown-is c S s [] q = refl
shown-is c S s (x ∷ xs) q =
    let here : x.outcome ≡ (step c S s x.event).outcome = cc in
    let rest : answers xs ≡ outcomes c S (step c S s x.event).state (events xs) = cc in
    λ i. record { event = x.event; outcome = here i } ∷ shown-is c S (step c S s x.event).state xs rest i

pub shown-answers : (c : Config) (S : Store) (s : State S) (es : List Event) → answers (shown c S s es) ≡ outcomes c S s es
unfolding shown outcomes
shown-answers c S s [] = refl
shown-answers c S s (e ∷ es) = ap (λ os. (step c S s e).outcome ∷ os) (shown-answers c S (step c S s e).state es)

pub shown-events : (c : Config) (S : Store) (s : State S) (es : List Event) → events (shown c S s es) ≡ es
unfolding shown
shown-events c S s [] = refl
shown-events c S s (e ∷ es) = ap (λ l. e ∷ l) (shown-events c S (step c S s e).state es)

module _ (c : Config) where
  pub images-shown : (g : State (guard c)) (es : List Event) → images_seen (shown c (guard c) g es) ≡ images c (guard c) g es
  unfolding shown images_seen images
  images-shown g [] = refl
  images-shown g (e ∷ es) =
      ap (λ l. (image_in e ++ image_out e (step c (guard c) g e).outcome) ++ l) (images-shown (step c (guard c) g e).state es)

  pub loads-shown : (ds : List (List ℕ)) (g : State (guard c)) (es : List Event) → LoadsSeen ds (shown c (guard c) g es) ≡ LoadsOfSaves c ds g es
  unfolding shown LoadsSeen LoadsOfSaves
  loads-shown ds g [] = refl
  loads-shown ds g (e ∷ es) =
      let o = (step c (guard c) g e).outcome in
      ap (λ L. LoadOf ds e o × L) (loads-shown (given e o ++ ds) (step c (guard c) g e).state es)

  honest_same : (g : State (guard c)) (t : State (tree c)) (e : Event) → HonestIn c t e (step c (guard c) g e).outcome ≡ HonestAt c g t e
  unfolding HonestIn HonestAt
  honest_same g t (call s a q) = refl
  honest_same g t (reply r a q) = refl
  honest_same g t (save n) = refl
  honest_same g t (load v i d) = refl

  pub honest-shown : (g : State (guard c)) (t : State (tree c)) (es : List Event) → HonestSeen c t (shown c (guard c) g es) ≡ Honest c g t es
  unfolding shown HonestSeen Honest
  honest-shown g t [] = refl
  honest-shown g t (e ∷ es) = ap₂ (λ A B. A × B) (honest_same g t e) (honest-shown (step c (guard c) g e).state (step c (tree c) t e).state es)

-- Where a page is awaited, a fetch stands.
module _ (c : Config) where
  abbrev pub Stands : List ℕ → State (guard c) → Type 0
  Stands q g = is_fetch q ≡ awaits_page g.skeleton.pending

  abbrev StandsAfter : List ℕ → Event → Result (guard c) → Type 0
  StandsAfter q e r = Stands (standing q e r.outcome.answer) r.state

  starts_stands : (p : Pending) (q : List ℕ) → Starts p → Asks p q → is_fetch q ≡ awaits_page p
  unfolding awaits_page
  starts_stands idle q s a = absurd s
  starts_stands (asked x) q s a = a
  starts_stands (reading k o p n i) q s a = a
  starts_stands (fetching k o x i) q s a = absurd s
  starts_stands (storing k o x i) q s a = absurd s
  starts_stands (cutting k o x) q s a = absurd s

  pages_stand : (q : List ℕ) (e : Event) (g : State (guard c)) (k o : ℕ) (x : Change) (i : ℕ) → StandsAfter q e (pages_from c (guard c) g k o x i)
  unfolding pages_from on_page ask_store pages_stored finish_change standing is_fetch awaits_page fetch_request store_request cut_request
  pages_stand q e g k o x i =
      pick_ind (StandsAfter q e) (ltb i (last x))
      (λ _. pick_ind (StandsAfter q e) (fetches x (size_at c (guard c) g k) i) (λ _. refl) (λ _. refl))
      (λ _. pick_ind (StandsAfter q e) (cuts x) (λ _. refl) (λ _. refl))

  -- a number of a reply's list is not 28
  not_full : (g : State (guard c)) (r : List ℕ) (a b n : ℕ) → First n (event_checks c g.skeleton (reply r a b)) → eqb n 28 ≡ false
  unfolding event_checks
  not_full g r a b n f = first-has {F = λ ch. eqb ch.0 28 ≡ false} (both refl (both refl (both refl all_none))) f

  left_stands : (q : List ℕ) (g : State (guard c)) → Stands q g → (e : Event) (n : ℕ) → First n (event_checks c g.skeleton e) → Stands (left_by q e n) g
  unfolding left_by
  left_stands q g h (call s a b) n f = h
  left_stands q g h (reply r a b) n f = ap is_fetch (pick-false _ _ _ (not_full g r a b n f)) ∙ h
  left_stands q g h (save m) n f = h
  left_stands q g h (load v i d) n f = h

  pub move_stands : (q : List ℕ) (g : State (guard c)) → Stands q g → {m : Move} {e : Event} → Fits c g.skeleton e m → StandsAfter q e (apply c (guard c) g m)
  unfolding apply read_on ask_store finish_change standing is_fetch awaits_page fetch_request store_request
  move_stands q g h {e = e} (f_refuse {n = n} f) = left_stands q g h e n f
  move_stands q g h (f_halt he y f) = refl
  move_stands q g h (f_send {p = p} {q = r} x s a) = starts_stands p r s a
  move_stands q g h (f_finish pl v z) = refl
  move_stands q g h (f_add pl z v) = refl
  move_stands q g h (f_delete pl v) = refl
  move_stands q g h (f_remap pl) = refl
  move_stands q g h {e = e} (f_read_page {k = k} {p = p} {n = n} {i = i} {r = r} he w l x) =
      pick_ind (StandsAfter q e) (equal (c.digest r) (get_or (get_or g.contents k []) i []))
      (λ _. pick_ind (StandsAfter q e) (leb (p + n) (i * 1024 + 1024)) (λ _. refl) (λ _. refl))
      (λ _. refl)
  move_stands q g h {e = e} (f_begin {k = k} {o = o} {q = x} pl z) = pages_stand q e (cleared c (guard c) g) k o x (first x)
  move_stands q g h {e = e} (f_fill_page {k = k} {i = i} {r = r} he w l x) =
      pick_ind (StandsAfter q e) (equal (c.digest r) (get_or (get_or g.contents k []) i [])) (λ _. refl) (λ _. refl)
  move_stands q g h {e = e} (f_stored {k = k} {o = o} {q = x} {i = i} pl w z) = pages_stand q e g k o x (suc i)
  move_stands q g h (f_cut_done pl w z) = refl
  move_stands q g h (f_keep_pages pl w x z l) = refl
  move_stands q g h (f_give_up he f) = rw he (unfold left_by pick in refl)
  move_stands q g h (f_saving he w z) = refl
  move_stands q g h (f_loading he z hd hp) = refl

  pub page_replied_lem : (q : List ℕ) (p : Pending) (e : Event) → is_fetch q ≡ awaits_page p → page_replied q e ≡ page_in p e
  unfolding page_replied page_in
  page_replied_lem q p (call s a b) h = refl
  page_replied_lem q p (reply r a b) h = ap (λ w. pick w (pick (eqb (length r) PAGE_BYTES) (r ∷ []) []) []) h
  page_replied_lem q p (save n) h = refl
  page_replied_lem q p (load v i d) h = refl

-- A digest comes with a save that is done, and with nothing else.
abbrev pub NoSave : Event → Type 0
NoSave (call s a q) = Unit {0}
NoSave (reply r a q) = Unit {0}
NoSave (save n) = ⊥
NoSave (load v i d) = Unit {0}

module _ (c : Config) (S : Store) where
  abbrev Bare : Result S → Type 0
  Bare r = r.outcome.digest ≡ []

  pages-bare : (s : State S) (k o : ℕ) (x : Change) (i : ℕ) → Bare (pages_from c S s k o x i)
  unfolding pages_from on_page ask_store pages_stored finish_change
  pages-bare s k o x i =
      pick_ind Bare (ltb i (last x)) (λ _. pick_ind Bare (fetches x (size_at c S s k) i) (λ _. refl) (λ _. refl))
      (λ _. pick_ind Bare (cuts x) (λ _. refl) (λ _. refl))

  move-bare : (s : State S) {m : Move} {e : Event} → NoSave e → Fits c s.skeleton e m → Bare (apply c S s m)
  unfolding apply read_on ask_store finish_change
  move-bare s ns (f_refuse f) = refl
  move-bare s ns (f_halt he y f) = refl
  move-bare s ns (f_send x st a) = refl
  move-bare s ns (f_finish pl v z) = refl
  move-bare s ns (f_add pl z v) = refl
  move-bare s ns (f_delete pl v) = refl
  move-bare s ns (f_remap pl) = refl
  move-bare s ns (f_read_page {k = k} {p = p} {n = n} {i = i} {r = r} he w l x) =
      pick_ind Bare (S.is_page (content_at c S s k) i r) (λ _. pick_ind Bare (leb (p + n) (i * 1024 + 1024)) (λ _. refl) (λ _. refl)) (λ _. refl)
  move-bare s ns (f_begin {k = k} {o = o} {q = x} pl z) = pages-bare (cleared c S s) k o x (first x)
  move-bare s ns (f_fill_page {k = k} {i = i} {r = r} he w l x) = pick_ind Bare (S.is_page (content_at c S s k) i r) (λ _. refl) (λ _. refl)
  move-bare s ns (f_stored {k = k} {o = o} {q = x} {i = i} pl w z) = pages-bare s k o x (suc i)
  move-bare s ns (f_cut_done pl w z) = refl
  move-bare s ns (f_keep_pages pl w x z l) = refl
  move-bare s ns (f_give_up he f) = refl
  move-bare s ns (f_saving he w z) = absurd (subst NoSave he ns)
  move-bare s ns (f_loading he z hd hp) = refl

  pub no_save_bare : (s : State S) → Valid c.width s.skeleton → (e : Event) → EventBytes e → NoSave e
      → (step c S s e).outcome ≡ plain (step c S s e).outcome.answer
  unfolding step
  no_save_bare s v e b ns =
      λ i. record { answer = (step c S s e).outcome.answer; digest = move-bare s ns (judge_fits c s.skeleton v e b) i }

  -- what is true of a done save and of a refused one
  pub save_ind : (F : Outcome → Type 0) (s : State S) (n : ℕ) → ((k : ℕ) → F (plain (refused k)))
      → ((image : List ℕ) → F (record { answer = done (length image) image; digest = c.digest image }))
      → F (step c S s (save n)).outcome
  unfolding step judge event_checks event_action apply
  save_ind F s n r d =
      decide_ind refuse (λ m. F (apply c S s m).outcome) (event_checks c s.skeleton (save n)) (event_action c s.skeleton (save n))
      (λ k _. r k) (λ _. d (image_of c S s))
