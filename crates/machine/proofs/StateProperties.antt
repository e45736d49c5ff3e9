-- What holds of the guard along every run, whatever the host replies: valid tables (SPECIFICATION 2), for each file just the digests that its size
-- needs, each of 32 bytes; and what is saved always loads again.
-- Assumes nothing.
use Rattle.std.specs.Prelude.{◌≡◌, refl, true, false, ℕ, suc, ◌+◌, ◌-◌, ◌*◌, ◌≤◌, leb, get_or, drop}
use Rattle.std.proofs.Math.Path.{ap, sym}
use Rattle.std.proofs.Common.{ap₂, ◌∙◌, subst, arith}
use Rattle.std.proofs.Math.Bool.{not}
use mathlib.Core.List.{List, [], ◌∷◌, ◌++◌, map, map-append, map-map, map-id}
use Rattle.std.proofs.Math.Option.{some}
use Rattle.std.proofs.Math.Dec.{ltb}
use Rattle.std.proofs.Math.ListN.{length, set}
use borrow.Author.Tests.{eqb-true, eq-eqb, leb-true, ltb-true}
use Rattle.lists.specs.Pick.{pick_ind}
use Rattle.lists.specs.Equal.{equal, equal_refl, and_fst, and_snd, and_both}
use Rattle.lists.specs.All.{All, both, none, all_append, all_take, all_drop, all_set, all-at}
use Rattle.lists.specs.Cells.{inside, length-tab}
use Rattle.lists.specs.Checks.{decide_passed}
use Rattle.lists.specs.Search.{without}
use Rattle.lists.specs.Places.{all_tab, all_place, all_without}
use Rattle.lists.specs.Maps.{map-set, map-without}
use Rattle.filesystem.specs.Tables.{Node, OpenFile, pages_for, set_size}
use Rattle.filesystem.specs.Image.{Image, saved, Version, current, layout_of, flatten, divide, sound_nodes, sound}
use Rattle.filesystem.specs.Image.{print, parse}
use Rattle.filesystem.specs.ImageLaws.{Divided, Digest, Shaped, length-flatten, divide-flatten, divided, all_flatten, parse-print, parse-was-printed}
use Rattle.filesystem.specs.Digests.{replaced}
use Rattle.rules.specs.Pages.{Change, first, last, fetches, cuts, before}
use Rattle.rules.specs.Skeleton.{resting_same, Config, Event, load, EventBytes, done, plain, Skeleton}
use Rattle.rules.specs.Requests.{idle}
use Rattle.rules.specs.Rules.{Move, refuse, loading, is_idle, is_none, image_or, event_checks, event_action, judge}
use Rattle.machine.specs.Machine.{State, Result, read_on, finish_change, pages_stored, ask_store, on_page, pages_from, cleared, trimmed, image_of, apply, step, fresh, final, zero_digest, guard}
use Rattle.rules.specs.Valid.{ValidNodes, Valid, sizes, Fits, f_refuse, f_halt, f_send, f_finish, f_add, f_delete, f_remap, f_read_page, f_begin, f_fill_page, f_stored, f_cut_done, f_keep_pages, f_give_up, f_saving, f_loading}
use Rattle.rules.proofs.TableLaws.{fresh_valid}
use Rattle.rules.proofs.FitLaws.{judge_fits}
use Rattle.machine.proofs.ValidLaws.{keeps_valid}
use Rattle.machine.specs.Held.{Digested, Holds}

-- digests of nodes with the same sizes
same_sizes : (ns ms : List Node) (dss : List (List (List ℕ))) → sizes ms ≡ sizes ns → Divided ns dss → Divided ms dss
same_sizes ns ms dss e h = h ∙ (sym (map-map pages_for (λ n. n.size) ns) ∙ (ap (map pages_for) (sym e) ∙ map-map pages_for (λ n. n.size) ms))

no-pages : (n : ℕ) → n ≡ 0 → 0 ≡ pages_for n
unfolding pages_for
no-pages n e = omega arith

all_divide : {F : List ℕ → Type 0} (ns : List Node) (ds : List (List ℕ)) → All F ds → All (All F) (divide ns ds)
unfolding divide
all_divide [] ds a = none
all_divide (n ∷ ns) ds a = both (all_take (pages_for n.size) a) (all_divide ns (drop (pages_for n.size) ds) (all_drop (pages_for n.size) a))

module _ (c : Config) where
  abbrev Keeps : Result (guard c) → Type 0
  Keeps r = Digested c r.state

  length-replaced : (ds : List (List ℕ)) (size from : ℕ) (new : List (List ℕ)) → length (replaced (zero_digest c) ds size from new) ≡ pages_for size
  unfolding replaced
  length-replaced ds size from new = length-tab _ _

  pub fresh_holds : 1 ≤ c.width → Holds c (fresh c (guard c))
  fresh_holds wide = record {
    valid = fresh_valid c.width wide;
    pages = record { counted = unfold pages_for in refl; digested = both none none; sent = none };
  }

  -- what is loaded was so saved
  parsed_shape : {e : Event} → EventBytes e → (v : Version) (s d : List ℕ) (i : Image) → e ≡ load v s d
      → parse (layout_of c.width v) s ≡ some i → (sound c.width i ≡ true) × Shaped i
  unfolding EventBytes layout_of
  parsed_shape b current s d i he hp =
      let (t, h, q) = parse-was-printed (saved c.width) s i (subst EventBytes he b).0 hp in (t, h)

  loaded-nodes : {sk : Skeleton} {e : Event} {i : Image} {d : List ℕ} → EventBytes e → Fits c sk e (loading i d) → ValidNodes c.width i.0
  unfolding sound
  loaded-nodes {i = i} {d = d} b (f_loading {v = v} {image = s} he z hd hp) =
      let (t, h) = parsed_shape b v s d i he hp in record { sound = and_fst _ _ t; named = h.names }

  -- The image of such a state loads again, and as it was.
  pub loads_again : (g : State (guard c)) → Holds c g
      → parse (saved c.width) (image_of c (guard c) g) ≡ some (g.skeleton.tables.nodes, flatten g.contents)
  unfolding sound
  loads_again g h =
      let ns = g.skeleton.tables.nodes in
      let n = h.valid.tables.nodes_valid in
      ap (λ (l : List (List (List ℕ))). parse (saved c.width) (print (saved c.width) (ns, flatten l)))
      (map-id g.contents)
      ∙ parse-print (saved c.width) (ns, flatten g.contents)
      (and_both _ _ n.sound (eq-eqb _ _ (length-flatten ns g.contents h.pages.counted)))
      (record { names = n.named; digests = all_flatten h.pages.digested })

  -- so another guard that runs, waits for nothing and has no file open loads it
  module _ (g h : State (guard c)) (v : Holds c g) (running : h.skeleton.stopped ≡ false) (quiet : h.skeleton.pending ≡ idle)
      (closed : h.skeleton.tables.opens ≡ []) where
    abbrev written : List ℕ
    written = image_of c (guard c) g

    pub load-judged : judge c h.skeleton (load current written (c.digest written))
        ≡ loading (g.skeleton.tables.nodes, flatten g.contents) (c.digest written)
    unfolding judge event_checks event_action is_idle is_none image_or layout_of
    load-judged =
        let e = loads_again g v in
        decide_passed refuse _ _
        (both running
        (both (ap (λ p. not (is_idle p)) quiet)
        (both (ap (λ (os : List OpenFile). ltb 0 (length os)) closed)
        (both (ap not (equal_refl (c.digest written)))
        (both (ap is_none e) none)))))
        ∙ ap (λ i. loading (image_or i) (c.digest written)) e

  -- and the same guard, at once: that is done and changes nothing
  module _ (g : State (guard c)) (h : Holds c g) (running : g.skeleton.stopped ≡ false) (quiet : g.skeleton.pending ≡ idle) (closed : g.skeleton.tables.opens ≡ []) where
    abbrev image : List ℕ
    image = image_of c (guard c) g

    pub load_keeps : step c (guard c) g (load current image (c.digest image))
        ≡ record { outcome = plain (done 0 []); state = cleared c (guard c) g }
    unfolding step apply
    load_keeps =
        ap (λ m. apply c (guard c) g m) (load-judged g g h running quiet closed)
        ∙ (λ x. record {
          outcome = plain (done 0 []);
          state = record {
            skeleton = resting_same g.skeleton quiet running x;
            contents = divide-flatten g.skeleton.tables.nodes g.contents h.pages.counted x;
            progress = (guard c).nothing;
            saves = tt;
          };
        })

module _ (c : Config) (digest_fits : (s : List ℕ) → Digest (c.digest s)) where
  digested_replaced : (ds : List (List ℕ)) (size from : ℕ) (new : List (List ℕ)) → All Digest ds → All Digest new
      → All Digest (replaced (zero_digest c) ds size from new)
  unfolding replaced zero_digest
  digested_replaced ds size from new a b =
      all_tab (pages_for size) _ (λ i h. pick_ind Digest (inside from (length new) i)
      (λ e.
      let l = leb-true from i (and_fst _ _ e) in
      let m = ltb-true i (from + length new) (and_snd (leb from i) _ e) in
      all_place [] (i - from) b (omega arith))
      (λ e. all-at i (zero_digest c) (digest_fits _) a))

  finish_digested : (g : State (guard c)) (k o : ℕ) (q : Change) → Digested c g → Keeps c (finish_change c (guard c) g k o q)
  unfolding finish_change set_size
  finish_digested g k o q h =
      let ns = g.skeleton.tables.nodes in
      record {
        counted = map-set length g.contents k _ ∙ (ap₂ (λ l n. set l k n) h.counted (length-replaced c _ _ (first q) _) ∙ sym (map-set (λ n. pages_for n.size) ns k _));
        digested = all_set k _ (digested_replaced _ _ (first q) _ (all-at k [] none h.digested) h.sent) h.digested;
        sent = none;
      }

  stored_digested : (g : State (guard c)) (k o : ℕ) (q : Change) → Digested c g → Keeps c (pages_stored c (guard c) g k o q)
  unfolding pages_stored
  stored_digested g k o q h = pick_ind (Keeps c) (cuts q) (λ e. record { counted = h.counted; digested = h.digested; sent = h.sent }) (λ e. finish_digested g k o q h)

  store_digested : (g : State (guard c)) (k o : ℕ) (q : Change) (i : ℕ) (r : List ℕ) → Digested c g → Keeps c (ask_store c (guard c) g k o q i r)
  unfolding ask_store
  store_digested g k o q i r h = record { counted = h.counted; digested = h.digested; sent = all_append h.sent (both (digest_fits _) none) }

  pages_digested : (g : State (guard c)) (k o : ℕ) (q : Change) (i : ℕ) → Digested c g → Keeps c (pages_from c (guard c) g k o q i)
  unfolding pages_from on_page
  pages_digested g k o q i h =
      pick_ind (Keeps c) (ltb i (last q))
      (λ e. pick_ind (Keeps c) (fetches q _ i) (λ e₂. record { counted = h.counted; digested = h.digested; sent = h.sent }) (λ e₂. store_digested g k o q i [] h))
      (λ e. stored_digested g k o q h)

  keeps_digested : (g : State (guard c)) → Digested c g → (m : Move) (e : Event) → EventBytes e → Fits c g.skeleton e m → Keeps c (apply c (guard c) g m)
  unfolding apply sound
  keeps_digested g h m e b (f_refuse f) = h
  keeps_digested g h m e b (f_halt x n f) = record { counted = h.counted; digested = h.digested; sent = none }
  keeps_digested g h m e b (f_send p s k) = record { counted = h.counted; digested = h.digested; sent = none }
  keeps_digested g h m e b (f_finish {t = t} pl v z) = record { counted = same_sizes g.skeleton.tables.nodes t.nodes g.contents z h.counted; digested = h.digested; sent = none }
  keeps_digested g h m e b (f_add {n = n} pl z v) = record {
    counted = map-append length g.contents ([] ∷ [])
        ∙ (ap₂ (λ l k. l ++ (k ∷ [])) h.counted (no-pages n.size z) ∙ sym (map-append (λ n. pages_for n.size) g.skeleton.tables.nodes (n ∷ [])));
    digested = all_append h.digested (both none none);
    sent = none;
  }
  keeps_digested g h m e b (f_delete {k = k} pl v) = record {
    counted = map-without length k g.contents ∙ (ap (without k) h.counted ∙ sym (map-without (λ n. pages_for n.size) k g.skeleton.tables.nodes));
    digested = all_without k h.digested;
    sent = none;
  }
  keeps_digested g h m e b (f_remap pl) = record { counted = h.counted; digested = h.digested; sent = none }
  keeps_digested g h m e b (f_read_page {k = k} {o = o} {p = p} {n = n} {i = i} {r = r} he w l x) =
      pick_ind (Keeps c) (equal (c.digest r) (get_or (get_or g.contents k []) i []))
      (λ t. unfold read_on in pick_ind (Keeps c) (leb (p + n) (i * 1024 + 1024))
      (λ t. record { counted = h.counted; digested = h.digested; sent = none })
      (λ t. record { counted = h.counted; digested = h.digested; sent = h.sent }))
      (λ t. record { counted = h.counted; digested = h.digested; sent = none })
  keeps_digested g h m e b (f_begin {k = k} {o = o} {q = q} pl x) =
      pages_digested (cleared c (guard c) g) k o q (first q) (record { counted = h.counted; digested = h.digested; sent = none })
  keeps_digested g h m e b (f_fill_page {k = k} {o = o} {q = q} {i = i} {r = r} he w l x) =
      pick_ind (Keeps c) (equal (c.digest r) (get_or (get_or g.contents k []) i []))
      (λ t. store_digested g k o q i r h)
      (λ t. record { counted = h.counted; digested = h.digested; sent = none })
  keeps_digested g h m e b (f_stored {k = k} {o = o} {q = q} {i = i} pl w x) = pages_digested g k o q (suc i) h
  keeps_digested g h m e b (f_cut_done {k = k} {o = o} {q = q} pl w x) = finish_digested g k o q h
  keeps_digested g h m e b (f_keep_pages {k = k} {o = o} {q = q} {i = i} pl w x t l) =
      finish_digested (trimmed c (guard c) g (i - first q)) k o (before q i) (record { counted = h.counted; digested = h.digested; sent = all_take (i - first q) h.sent })
  keeps_digested g h m e b (f_give_up he f) = record { counted = h.counted; digested = h.digested; sent = none }
  keeps_digested g h m e b (f_saving he w z) = record { counted = h.counted; digested = h.digested; sent = none }
  keeps_digested g h m e b (f_loading {i = i} {v = v} {image = s} {d = d} he z hd hp) =
      let (t, x) = parsed_shape c b v s d i he hp in
      record { counted = divided i.0 i.1 (eqb-true _ _ (and_snd (sound_nodes c.width i.0) _ t)); digested = all_divide i.0 i.1 x.digests; sent = none }

  -- one event, whatever it is
  pub step_holds : (g : State (guard c)) (e : Event) → EventBytes e → Holds c g → Holds c (step c (guard c) g e).state
  unfolding step
  step_holds g e b h =
      let f = judge_fits c g.skeleton h.valid e b in
      record {
        valid = keeps_valid c (guard c) g h.valid (judge c g.skeleton e) e f (λ i d q. loaded-nodes c b (subst (Fits c g.skeleton e) q f));
        pages = keeps_digested g h.pages (judge c g.skeleton e) e b f;
      }

  pub run_holds : (g : State (guard c)) (es : List Event) → All EventBytes es → Holds c g → Holds c (final c (guard c) g es)
  unfolding final
  run_holds g [] a h = h
  run_holds g (e ∷ es) (both b a) h = run_holds (step c (guard c) g e).state es a (step_holds g e b h)

  module _ (wide : 1 ≤ c.width) (es : List Event) (a : All EventBytes es) where
    abbrev at-end : State (guard c)
    at-end = final c (guard c) (fresh c (guard c)) es

    pub always_holds : Holds c at-end
    always_holds = run_holds (fresh c (guard c)) es a (fresh_holds c wide)

    pub always_valid : Valid c.width at-end.skeleton
    always_valid = always_holds.valid

    -- as many digests as the size needs pages
    pub always_counted : Divided at-end.skeleton.tables.nodes at-end.contents
    always_counted = always_holds.pages.counted

    pub always_digests : All (All Digest) at-end.contents
    always_digests = always_holds.pages.digested

    -- what is saved loads again, and as it was
    pub always_loads : parse (saved c.width) (image_of c (guard c) at-end)
        ≡ some (at-end.skeleton.tables.nodes, flatten at-end.contents)
    always_loads = loads_again c at-end always_holds
