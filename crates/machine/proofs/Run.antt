-- The claim, first half (SPECIFICATION 10.4): over a whole list the guard's outcomes and final state are the tree's, or a collision is named.
use Rattle.std.proofs.Math.Path.{◌≡◌, refl, ap, sym, subst}
use Rattle.std.proofs.Common.{ap₂, ◌∙◌, inl, inr, arith}
use Rattle.std.specs.Prelude.{◌⊎◌, Bool, ℕ, suc, ◌+◌, ◌*◌, ltb, leb, length, get_or}
use Rattle.std.proofs.Math.Bool.{true, false}
use mathlib.Core.List.Memᴰ
use mathlib.Core.List.{List, [], ◌∷◌, ◌++◌, map, Memᴰ}
use Rattle.std.proofs.Math.Option.{Option, some, none}
use borrow.Author.Tests.{eq-eqb}
use Rattle.lists.specs.Pick.{pick, pick_ind}
use Rattle.lists.specs.Equal.{Is, is_t, is_f, is, equal, equal_true, equal_false, equal_refl, and_both}
use Rattle.lists.specs.All.{All, both, none as all_none, all_head, all_tail}
use Rattle.lists.specs.Or.{Or, bad, ok, ◌>>=◌}
use Rattle.lists.specs.Cells.{tab}
use Rattle.lists.specs.Places.{all_tab}
use Rattle.filesystem.specs.Tables.{PAGE_BYTES, Node, pages_for}
use Rattle.filesystem.specs.Image.{Image, saved, Version, current, layout_of, flatten, divide, sound, parse}
use Rattle.filesystem.specs.ImageLaws.{Divided, Digest, length-flatten, divide-flatten, all_flatten, parse-print}
use Rattle.rules.specs.Pages.{page_of, Change, first, last, fetches, cuts}
use Rattle.rules.specs.Requests.{Pending}
use Rattle.rules.specs.Skeleton.{Config, Event, call, reply, save, load, EventBytes, ask, refused, Outcome}
use Rattle.rules.specs.Rules.{Move, loading, judge}
use Rattle.machine.specs.Machine.{Files, State, Result, files, read_on, finish_change, pages_stored, ask_store, on_page, pages_from, cleared, apply, step, fresh, outcomes, final, guard}
use Rattle.rules.specs.Valid.{ValidNodes, Valid, Plain, sizes, Fits, f_refuse, f_halt, f_send, f_finish, f_add, f_delete, f_remap, f_read_page, f_begin, f_fill_page, f_stored, f_cut_done, f_keep_pages, f_give_up, f_saving, f_loading}
use Rattle.rules.proofs.TableLaws.{fresh_valid}
use Rattle.rules.proofs.FitLaws.{judge_fits}
use Rattle.machine.proofs.ValidLaws.{keeps_valid}
use Rattle.machine.specs.Tree.{Saved, lookup, go_back, digests_of, tree, progress_of, guard_of}
use Rattle.machine.specs.History.{awaits_page, page_in, page_out, image_in, image_out, pages, images, Collision}
use Rattle.machine.specs.Claim.{Fit, is_done, given, given_if, LoadOf, LoadsOfSaves, Agrees, FirstHalf}
use Rattle.machine.specs.Seen.{given_after, shown}
use Rattle.machine.proofs.DigestLaws.{length_digests}
use Rattle.machine.proofs.Simulation.{result_of, files_of, SamePage, Agree, Aligned, page_in_lem, commute}
use Rattle.machine.proofs.Invariant.{Good, image_of_files, GoodSave, Kept, known_blank, known_at, lookup_good, keeps}

module _ (c : Config) (fit : Fit c) (M N : List ℕ → Type 0) where
  -- two different pages, or two different images, with one digest
  abbrev pub Clash : (List ℕ → Type 0) → Type 0
  Clash F = (p : List ℕ) × (q : List ℕ) × F p × F q × (p ≡ q → ⊥) × (c.digest p ≡ c.digest q)

  abbrev pub Bad : Type 0
  Bad = Clash M ⊎ Clash N

  -- a page that came, against the page that the tree holds
  agree_page : (r p : List ℕ) → M r → M p → Or Bad (SamePage c r p)
  agree_page r p mr mp = go (is (equal r p)) (is (equal (c.digest r) (c.digest p)))
    where
      go : Is (equal r p) → Is (equal (c.digest r) (c.digest p)) → Or Bad (SamePage c r p)
      go (is_t e) q = ok (rw (equal_true r p e, equal_refl p, equal_refl (c.digest p)))
      go (is_f e) (is_f q) = ok (q ∙ sym e)
      go (is_f e) (is_t q) = bad (inl (r, p, mr, mp, equal_false r p e, equal_true _ _ q))

  divided_digests : (ns : List Node) (xs : List (List ℕ)) → Aligned c ns xs → Divided ns (map (digests_of c) xs)
  divided_digests ns xs al = over xs ∙ (ap (map pages_for) (sym al) ∙ sym (twice ns))
    where
      over : (xs : List (List ℕ)) → map length (map (digests_of c) xs) ≡ map pages_for (map length xs)
      over [] = refl
      over (x ∷ xs) = ap₂ ◌∷◌ (length_digests c x) (over xs)

      twice : (ns : List Node) → map (λ n. pages_for n.size) ns ≡ map pages_for (sizes ns)
      twice [] = refl
      twice (n ∷ ns) = ap (λ l. pages_for n.size ∷ l) (twice ns)

  all_digests : (xs : List (List ℕ)) → All (All Digest) (map (digests_of c) xs)
  unfolding digests_of
  all_digests [] = all_none
  all_digests (x ∷ xs) = both (all_tab (pages_for (length x)) _ (λ i h. (fit.long (page_of x i), fit.bytes (page_of x i)))) (all_digests xs)

  -- tables read back from the image of good ones
  pub read_back : (f : Files (List ℕ)) → Good c M N f → ValidNodes c.width f.nodes → (i : Image)
      → parse (saved c.width) (image_of_files c M N f) ≡ some i
      → ◌≡◌ {A = Files (List (List ℕ))} (record { nodes = i.0; contents = divide i.0 i.1 }) (files_of c f)
  unfolding files_of sound
  read_back f g v i e =
      let ds : List (List (List ℕ)) = map (digests_of c) f.contents in
      let dv = divided_digests f.nodes f.contents g.aligned in
      let s : sound c.width (f.nodes, flatten ds) ≡ true = and_both _ _ v.sound (eq-eqb _ _ (length-flatten f.nodes ds dv)) in
      let p = parse-print (saved c.width) (f.nodes, flatten ds) s
      (record { names = v.named; digests = all_flatten (all_digests f.contents) }) in
      let z : ◌≡◌ {A = Image} (f.nodes, flatten ds) i = cc in
      ap (λ (j : Image). record { nodes = j.0; contents = divide j.0 j.1 }) (sym z)
      ∙ ap (λ (d : List (List (List ℕ))). record { nodes = f.nodes; contents = d }) (divide-flatten f.nodes ds dv)

  found : (ss : List Saved) (d : List ℕ) → Memᴰ d (map (λ s. s.digest) ss) → (s : Saved) × (lookup ss d ≡ some s)
  unfolding lookup pick
  found [] d m = absurd (Memᴰ.not-nil m)
  found (x ∷ ss) d m = go (equal x.digest d) refl (found ss d) (Memᴰ.cases_cons m)
    where
      go : (b : Bool) → equal x.digest d ≡ b → (Memᴰ d (map (λ s. s.digest) ss) → (s : Saved) × (lookup ss d ≡ some s))
          → (d ≡ x.digest) ⊎ Memᴰ d (map (λ s. s.digest) ss) → (s : Saved) × (pick b (some x) (lookup ss d) ≡ some s)
      go true q ih o = (x, refl)
      go false q ih (inl e) = absurd (equal_false _ _ q (sym e))
      go false q ih (inr m) = ih m

  agree_image : (t : State (tree c)) → Kept c M N t → (k : Version) (i : Image) (image d : List ℕ)
      → parse (layout_of c.width k) image ≡ some i → c.digest image ≡ d → N image
      → Memᴰ d (map (λ s. s.digest) t.saves) → Or Bad (Agree c t (loading i d))
  unfolding go_back layout_of
  agree_image t v current i image d hp hd ni m = go (found t.saves d m)
    where
      go : (s : Saved) × (lookup t.saves d ≡ some s) → Or Bad (Agree c t (loading i d))
      go (s, e) = same (is (equal image (image_of_files c M N s.files)))
        where
          gs : GoodSave c M N s × (s.digest ≡ d)
          gs = lookup_good c M N t.saves d v.saves s e

          same : Is (equal image (image_of_files c M N s.files)) → Or Bad (Agree c t (loading i d))
          same (is_t q) =
              ok (rw e (read_back s.files gs.0.good gs.0.valid i
              (subst (λ x. parse (saved c.width) x ≡ some i) (equal_true _ _ q) hp)))
          same (is_f q) = bad (inr (image, image_of_files c M N s.files, ni, gs.0.image, equal_false _ _ q, hd ∙ (sym gs.1 ∙ gs.0.sealed)))

  -- a page that a reply brought is of the history
  page_came : (p : Pending) (e : Event) (r : List ℕ) (a q : ℕ) → e ≡ reply r a q → awaits_page p ≡ true → length r ≡ PAGE_BYTES → Memᴰ r (page_in p e)
  unfolding page_in pick
  page_came p e r a q he w l = rw (he, w, eq-eqb (length r) PAGE_BYTES l) (Memᴰ.head refl)

  agree : (t : State (tree c)) → Kept c M N t → {m : Move} {e : Event} → Fits c t.skeleton e m
      → ((p : List ℕ) → Memᴰ p (page_in t.skeleton.pending e) → M p) → ((p : List ℕ) → Memᴰ p (image_in e) → N p)
      → LoadOf (map (λ s. s.digest) t.saves) e (apply c (guard c) (guard_of c t) m).outcome → Or Bad (Agree c t m)
  unfolding apply image_in LoadOf is_done
  agree t v (f_refuse f) np ni lo = ok tt
  agree t v (f_halt he y f) np ni lo = ok tt
  agree t v (f_send h s k) np ni lo = ok tt
  agree t v (f_finish pl h s) np ni lo = ok tt
  agree t v (f_add pl z h) np ni lo = ok tt
  agree t v (f_delete pl h) np ni lo = ok tt
  agree t v (f_remap pl) np ni lo = ok tt
  agree t v {e = e} (f_read_page {k = k} {i = i} {r = r} {a = a} {q = q} he w l h) np ni lo =
      agree_page r (page_of (get_or t.contents k []) i) (np r (page_came t.skeleton.pending e r a q he (rw w (unfold awaits_page in refl)) l))
      (known_at c M N t.contents k v.good.known i (page_in_lem c t.skeleton.tables.nodes t.contents v.good.aligned k i (let x = h.within in let y = h.to in omega arith)))
  agree t v (f_begin pl h) np ni lo = ok tt
  agree t v {e = e} (f_fill_page {k = k} {i = i} {r = r} {a = a} {b = b} he w l h) np ni lo =
      agree_page r (page_of (get_or t.contents k []) i) (np r (page_came t.skeleton.pending e r a b he (rw w (unfold awaits_page in refl)) l))
      (known_at c M N t.contents k v.good.known i (page_in_lem c t.skeleton.tables.nodes t.contents v.good.aligned k i h.old))
  agree t v (f_stored pl w h) np ni lo = ok tt
  agree t v (f_cut_done pl w h) np ni lo = ok tt
  agree t v (f_keep_pages pl w h s l) np ni lo = ok tt
  agree t v (f_give_up he f) np ni lo = ok tt
  agree t v (f_saving he w z) np ni lo = ok tt
  agree t v (f_loading {i = i} {v = k} {image = image} {d = d} he z hd hp) np ni lo =
      agree_image t v k i image d hp hd (ni image (rw he (Memᴰ.head refl))) ((rw he at lo) tt)

  -- The digests that the tree keeps are those that were given.
  abbrev digests_kept : List Saved → List (List ℕ)
  digests_kept ss = map (λ s. s.digest) ss

  abbrev Remembers : State (tree c) → Event → Result (tree c) → Type 0
  Remembers t e r = digests_kept r.state.saves ≡ given e r.outcome ++ digests_kept t.saves

  given-plain : (e : Event) (o : Outcome) → Plain e → given e o ≡ []
  unfolding given
  given-plain (call s a q) o p = refl
  given-plain (reply r a q) o p = refl
  given-plain (save n) o p = absurd p
  given-plain (load k i d) o p = absurd p

  given_refused : (e : Event) (n : ℕ) → given e (record { answer = refused n; digest = [] }) ≡ []
  unfolding given given_if
  given_refused (call s a q) n = refl
  given_refused (reply r a q) n = refl
  given_refused (save m) n = refl
  given_refused (load k i d) n = refl

  given_ask : (e : Event) (q : List ℕ) → given e (record { answer = ask q; digest = [] }) ≡ []
  unfolding given given_if
  given_ask (call s a b) q = refl
  given_ask (reply r a b) q = refl
  given_ask (save m) q = refl
  given_ask (load k i d) q = refl

  is_plain : (e : Event) (r : List ℕ) (a q : ℕ) → e ≡ reply r a q → Plain e
  is_plain e r a q he = rw he tt

  -- a plain event changes no saves
  same_saves : (t : State (tree c)) (e : Event) → Plain e → (o : Outcome) (ss : List Saved) → ss ≡ t.saves
      → digests_kept ss ≡ given e o ++ digests_kept t.saves
  same_saves t e p o ss q = ap digests_kept q ∙ rw (given-plain e o p)

  abbrev Quiet : State (tree c) → Result (tree c) → Type 0
  Quiet t r = r.state.saves ≡ t.saves

  pages-quiet : (t : State (tree c)) (k o : ℕ) (q : Change) (i : ℕ) → Quiet t (pages_from c (tree c) t k o q i)
  unfolding pages_from on_page ask_store pages_stored finish_change
  pages-quiet t k o q i =
      pick_ind (Quiet t) (ltb i (last q)) (λ _. pick_ind (Quiet t) (fetches q _ i) (λ _. refl) (λ _. refl)) (λ _. pick_ind (Quiet t) (cuts q) (λ _. refl) (λ _. refl))

  remembers : (t : State (tree c)) {m : Move} {e : Event} → Fits c t.skeleton e m → Remembers t e (apply c (tree c) t m)
  unfolding apply read_on ask_store finish_change
  remembers t {e = e} (f_refuse {n = n} f) = rw (given_refused e n)
  remembers t {e = e} (f_halt {r = r} {a = a} {q = q} he y f) = same_saves t e (is_plain e r a q he) _ _ refl
  remembers t {e = e} (f_send {q = q} h s k) = rw (given_ask e q)
  remembers t {e = e} (f_finish pl h s) = same_saves t e pl _ _ refl
  remembers t {e = e} (f_add pl z h) = same_saves t e pl _ _ refl
  remembers t {e = e} (f_delete pl h) = same_saves t e pl _ _ refl
  remembers t {e = e} (f_remap pl) = same_saves t e pl _ _ refl
  remembers t {e = e} (f_read_page {p = p} {n = n} {i = i} {r = r} {a = a} {q = q} he w l h) =
      same_saves t e (is_plain e r a q he) _ _ (pick_ind (Quiet t) _ (λ _. pick_ind (Quiet t) (leb (p + n) (i * 1024 + 1024)) (λ _. refl) (λ _. refl)) (λ _. refl))
  remembers t {e = e} (f_begin {k = k} {o = o} {q = q} pl h) =
      same_saves t e pl _ _ (pages-quiet (cleared c (tree c) t) k o q (first q))
  remembers t {e = e} (f_fill_page {r = r} {a = a} {b = b} he w l h) =
      same_saves t e (is_plain e r a b he) _ _ (pick_ind (Quiet t) _ (λ _. refl) (λ _. refl))
  remembers t {e = e} (f_stored {k = k} {o = o} {q = q} {i = i} pl w h) = same_saves t e pl _ _ (pages-quiet t k o q (suc i))
  remembers t {e = e} (f_cut_done pl w h) = same_saves t e pl _ _ refl
  remembers t {e = e} (f_keep_pages pl w h s l) = same_saves t e pl _ _ refl
  remembers t {e = e} (f_give_up {r = r} {a = a} {q = q} he f) = same_saves t e (is_plain e r a q he) _ _ refl
  remembers t {e = e} (f_saving {n = n} he w z) = rw he (unfold given given_if in refl)
  remembers t {e = e} (f_loading {image = image} {d = d} he z hd hp) = rw he (unfold given in refl)

  -- the nodes that a load goes back to are those of a good save, or the tree's own
  pub back_valid : (t : State (tree c)) → Kept c M N t → ValidNodes c.width t.skeleton.tables.nodes → (d : List ℕ)
      → ValidNodes c.width (go_back (lookup t.saves d) (files c (tree c) t)).nodes
  unfolding go_back
  back_valid t v h d = go (lookup t.saves d) (λ s e. (lookup_good c M N t.saves d v.saves s e).0.valid)
    where
      go : (o : Option Saved) → ((s : Saved) → o ≡ some s → ValidNodes c.width s.files.nodes)
          → ValidNodes c.width (go_back o (files c (tree c) t)).nodes
      go none f = h
      go (some s) f = f s refl

  pub record Holds (t : State (tree c)) : Type 0 where
    pub valid : Valid c.width t.skeleton
    pub kept : Kept c M N t

  -- the page that a step brings is in M, and where guard and tree agree on it those that it sends or adds
  abbrev pub Coming : State (tree c) → Event → Type 0
  Coming t e =
      ((p : List ℕ) → Memᴰ p (page_in t.skeleton.pending e) → M p)
      × (step c (guard c) (guard_of c t) e ≡ result_of c (step c (tree c) t e)
      → (p : List ℕ) → Memᴰ p (page_out (step c (tree c) t e).state.skeleton (step c (tree c) t e).outcome.answer) → M p)

  -- its images are in N
  abbrev pub Images : State (guard c) → Event → Type 0
  Images g e = (p : List ℕ) → Memᴰ p (image_in e ++ image_out e (step c (guard c) g e).outcome) → N p

  -- What is known of the history before a run of both, whoever's run it follows: it says so of the first event, and as much of the rest.
  pub record History (P : State (guard c) → State (tree c) → List Event → Type 0) : Type 0 where
    pub here : (g : State (guard c)) (t : State (tree c)) (e : Event) (es : List Event) → P g t (e ∷ es) → g ≡ guard_of c t → Coming t e
    pub rest : (g : State (guard c)) (t : State (tree c)) (e : Event) (es : List Event) → P g t (e ∷ es) → g ≡ guard_of c t → Holds t → EventBytes e
        → P (step c (guard c) g e).state (step c (tree c) t e).state es

  -- one event, where guard and tree agree on its move
  pub advance : (t : State (tree c)) → Holds t → (e : Event) → EventBytes e → Coming t e → Images (guard_of c t) e → Agree c t (judge c t.skeleton e)
      → (step c (guard c) (guard_of c t) e ≡ result_of c (step c (tree c) t e)) × Holds (step c (tree c) t e).state × Remembers t e (step c (tree c) t e)
  unfolding step guard_of result_of
  advance t h e b co ni ag =
      let f = judge_fits c t.skeleton h.valid e b in
      let q : step c (guard c) (guard_of c t) e ≡ result_of c (step c (tree c) t e) = commute c t h.kept.good.aligned f ag in
      let qo : (step c (guard c) (guard_of c t) e).outcome ≡ (step c (tree c) t e).outcome = ap (λ r. r.outcome) q in (
        q,
        record {
          valid = keeps_valid c (tree c) t h.valid _ e f (λ i d _. back_valid t h.kept h.valid.tables.nodes_valid d);
          kept = keeps c M N t h.kept h.valid.tables.nodes_valid f (λ p m. ni p (Memᴰ.append_right (image_in e) (rw qo m))) (co.1 q);
        },
        remembers t f,
      )

  -- a run of the guard beside a run of the tree: the outcomes are the same, the guard that is left is the tree's, the tree is still as it has to be, and
  -- it keeps the digests that were given
  pub record Simulated (g : State (guard c)) (t : State (tree c)) (es : List Event) : Type 0 where
    pub same : outcomes c (guard c) g es ≡ outcomes c (tree c) t es
    pub left : final c (guard c) g es ≡ guard_of c (final c (tree c) t es)
    pub holds : Holds (final c (tree c) t es)
    pub saved : digests_kept (final c (tree c) t es).saves ≡ given_after (digests_kept t.saves) (shown c (guard c) g es)

  pub simulate : (P : State (guard c) → State (tree c) → List Event → Type 0) → History P
      → (es : List Event) (g : State (guard c)) (t : State (tree c)) → g ≡ guard_of c t → Holds t → All EventBytes es
      → LoadsOfSaves c (digests_kept t.saves) g es
      → P g t es → ((p : List ℕ) → Memᴰ p (images c (guard c) g es) → N p)
      → Or Bad (Simulated g t es)
  unfolding outcomes final LoadsOfSaves images result_of guard_of step given_after shown
  simulate P hi [] g t q h bs lo np ni = ok (record { same = refl; left = q; holds = h; saved = refl })
  simulate P hi (e ∷ es) g t q h bs lo np ni = do
    let co : Coming t e = hi.here g t e es np q
    let im : Images g e = λ p m. ni p (Memᴰ.append_left _ m)
    let im₂ : Images (guard_of c t) e = subst (λ s. Images s e) q im
    let lo₂ = subst (λ s. LoadOf (digests_kept t.saves) e (step c (guard c) s e).outcome) q lo.0
    ag ← agree t h.kept (judge_fits c t.skeleton h.valid e (all_head bs)) co.0 (λ p m. im₂ p (Memᴰ.append_left _ m)) lo₂
    let (x, h₂, k) = advance t h e (all_head bs) co im₂ ag
    let y : step c (guard c) g e ≡ result_of c (step c (tree c) t e) = ap (λ s. step c (guard c) s e) q ∙ x
    let yo : (step c (guard c) g e).outcome ≡ (step c (tree c) t e).outcome = ap (λ r. r.outcome) y
    let ds : given e (step c (guard c) g e).outcome ++ digests_kept t.saves ≡ digests_kept (step c (tree c) t e).state.saves =
        ap (λ o. given e o ++ digests_kept t.saves) yo ∙ sym k
    s ← simulate P hi es (step c (guard c) g e).state (step c (tree c) t e).state (ap (λ r. r.state) y) h₂ (all_tail bs)
        (subst (λ l. LoadsOfSaves c l (step c (guard c) g e).state es) ds lo.1)
        (hi.rest g t e es np q h (all_head bs))
        (λ p m. ni p (Memᴰ.append_right (image_in e ++ image_out e (step c (guard c) g e).outcome) m))
    ok (record {
      same = λ j. yo j ∷ s.same j;
      left = s.left;
      holds = s.holds;
      saved = s.saved ∙ ap (λ l. given_after l (shown c (guard c) (step c (guard c) g e).state es)) (sym ds);
    })

module _ (c : Config) (fit : Fit c) where
  -- the guard's own history
  pub guard_history : (M N : List ℕ → Type 0) → History c fit M N (λ g t es. (p : List ℕ) → Memᴰ p (pages c (guard c) g es) → M p)
  unfolding pages result_of guard_of
  guard_history M N = record {
    here = λ g t e es np q. (
      (λ p m. np p (Memᴰ.append_left _ (Memᴰ.append_left _ (subst (λ (s : State (guard c)). Memᴰ p (page_in s.skeleton.pending e)) (sym q) m)))),
      (λ x p m. np p (Memᴰ.append_left _ (Memᴰ.append_right (page_in g.skeleton.pending e)
          (subst (λ (r : Result (guard c)). Memᴰ p (page_out r.state.skeleton r.outcome.answer)) (sym (ap (λ s. step c (guard c) s e) q ∙ x)) m)))),
    );
    rest = λ g t e es np q h b p m. np p
        (Memᴰ.append_right (page_in g.skeleton.pending e ++ page_out (step c (guard c) g e).state.skeleton (step c (guard c) g e).outcome.answer) m);
  }

  pub fresh_holds : (M N : List ℕ → Type 0) → Holds c fit M N (fresh c (tree c))
  fresh_holds M N = record {
    valid = fresh_valid c.width fit.wide;
    kept = record { good = record { aligned = refl; known = both (known_blank c M N) all_none }; sofar = tt; saves = all_none };
  }

  pub fresh_guard_lem : fresh c (guard c) ≡ guard_of c (fresh c (tree c))
  unfolding guard_of progress_of digests_of pages_for tab
  fresh_guard_lem = refl

  pub first_half : FirstHalf c
  unfolding FirstHalf Agrees Collision
  first_half es bs lo = do
    s ← simulate c fit (λ p. Memᴰ p (pages c (guard c) (fresh c (guard c)) es)) (λ p. Memᴰ p (images c (guard c) (fresh c (guard c)) es))
        _ (guard_history _ _) es
        (fresh c (guard c)) (fresh c (tree c)) fresh_guard_lem (fresh_holds _ _) bs lo (λ p m. m) (λ p m. m)
    ok (s.same, s.left)
