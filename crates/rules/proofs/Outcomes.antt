-- Which numbers and reasons there are, when a number comes, and what SPECIFICATION 13.3 asks of single calls.
-- Assumes nothing.
use Rattle.std.proofs.Math.Path.{◌≡◌, refl, subst}
use Rattle.std.proofs.Common.{ap, sym, ◌∙◌, true≢false, arith, length-append}
use Rattle.std.specs.Prelude.{◌↔◌, Bool, ◌&&◌, ℕ, suc, ◌≤◌, ltb, length}
use Rattle.std.proofs.Math.Bool.{true, false, not}
use Rattle.std.proofs.lemmas.Bool.{false≢true}
use mathlib.Core.List.{List, [], ◌∷◌, ◌++◌}
use borrow.Author.Tests.{leb-true, le-ltb}
use Rattle.lists.specs.Pick.{pick, pick_true, pick-false, pick_ind}
use Rattle.lists.specs.Equal.{Is, is_t, is_f, is, and_fst, and_snd, and_both, or_both}
use Rattle.lists.specs.All.{All, both, none as all_none, all_append}
use Rattle.lists.specs.Search.{any, place}
use Rattle.lists.specs.Checks.{Check, Passed, First, here, decide, decide_passed, decide_ind, decide_exactly}
use Rattle.filesystem.specs.Tables.{NODES, OPEN_FILES, NAME_BYTES, PATH_BYTES, Node, Tables, fresh_tables, node_at, find_child}
use Rattle.filesystem.specs.Paths.{Path, joined, path_bytes, too_long, child_at, walk, walk_checks, parent_checks, parent_of}
use Rattle.rules.specs.Calls.{Call, create, mkdir, open_as, close, seek, read, write, truncate, remove, rmdir, chmod, readdir, stat, map_memory, unmap, call_bytes, read_call}
use Rattle.rules.specs.Calls.{rename}
use Rattle.rules.proofs.CallLaws.{CallFits, call_read_back}
use Rattle.filesystem.specs.MemoryMaps.{Map}
use Rattle.rules.specs.MapRules.{map_faults}
use Rattle.rules.specs.Requests.{asked, Pending, idle, creating, opening, closing, removing, changing, listing, stating, mapping, unmapping, reading, fetching, storing, cutting}
use Rattle.rules.specs.Requests.{renaming}
use Rattle.rules.specs.Pages.{first}
use Rattle.rules.specs.Skeleton.{Config, Event, call, reply, save, load, answer_length, request_length, Skeleton}
use Rattle.rules.specs.Rules.{Move, refuse, halt, send, finish, add, delete, remap, read_page, begin, fill_page, stored, cut_done, keep_pages, give_up, saving, loading, call_checks, read_action, call_action, reply_checks, reply_action, tells_full, finished, full_action, gives_up, map_checks, map_reasons, reasons, is_idle, call_or, is_none, event_checks, event_action, judge}
use Rattle.rules.specs.Rules.{same_path}
use Rattle.rules.specs.Numbers.{known, is_reason}

abbrev Reason : Check → Type 0
Reason ch = is_reason ch.0 ≡ true

-- what holds of each check of a list holds of the first whose condition does
pub first-has : {F : Check → Type 0} {n : ℕ} {cs : List Check} → All F cs → First n cs → F (n, true)
first-has (both f a) here = f
first-has (both f a) (First.later h) = first-has a h
first-has {F = F} {n = n} all_none h = elim h [ ]

-- a walk has the numbers 20, 13 and 2
module _ (F : Check → Type 0) (folder : (b : Bool) → F (20, b)) (bit : (b : Bool) → F (13, b)) (there : (b : Bool) → F (2, b)) where
  all_walk : (ns : List Node) (d : ℕ) (p : Path) → All F (walk_checks ns d p)
  unfolding walk_checks
  all_walk ns d [] = all_none
  all_walk ns d (c ∷ cs) = both (folder _) (both (bit _) (both (there _) (all_walk ns (child_at ns d c) cs)))

  all_parent : (ns : List Node) (d : ℕ) (p : Path) → All F (parent_checks ns d p)
  unfolding parent_checks
  all_parent ns d [] = all_none
  all_parent ns d (c ∷ []) = both (folder _) (both (bit _) all_none)
  all_parent ns d (c ∷ x ∷ cs) = both (folder _) (both (bit _) (both (there _) (all_parent ns (child_at ns d c) (x ∷ cs))))

-- Every number of the rules is in the table.
abbrev Known : Check → Type 0
Known ch = known ch.0 ≡ true

module _ (t : Tables) where
  walk-known : (p : Path) → All Known (walk_checks t.nodes 0 p)
  unfolding known any
  walk-known p = all_walk Known (λ b. refl) (λ b. refl) (λ b. refl) t.nodes 0 p

  parent_known : (p : Path) → All Known (parent_checks t.nodes 0 p)
  unfolding known any
  parent_known p = all_parent Known (λ b. refl) (λ b. refl) (λ b. refl) t.nodes 0 p

  call_known : (q : Call) → All Known (call_checks t q)
  unfolding call_checks known any
  call_known (create m p) = both refl (all_append (parent_known p) (both refl (both refl (both refl all_none))))
  call_known (mkdir m p) = both refl (all_append (parent_known p) (both refl (both refl (both refl all_none))))
  call_known (open_as r p) = both refl (all_append (walk-known p) (both refl (both refl (both refl (both refl all_none)))))
  call_known (close h) = both refl all_none
  call_known (seek h n) = both refl (both refl all_none)
  call_known (read h n) = both refl all_none
  call_known (write h d) = both refl (both refl (both refl all_none))
  call_known (truncate h n) = both refl (both refl (both refl all_none))
  call_known (remove p) = both refl (all_append (walk-known p) (both refl (both refl (both refl all_none))))
  call_known (rmdir p) = both refl (all_append (walk-known p) (both refl (both refl (both refl (both refl all_none)))))
  call_known (chmod m p) = both refl (walk-known p)
  call_known (readdir p) = both refl (all_append (walk-known p) (both refl (both refl all_none)))
  call_known (stat p) = both refl (walk-known p)
  call_known (map_memory n) = all_none
  call_known (unmap a) = all_none
  call_known (rename p q) =
      both refl (both refl (all_append (walk-known p)
      (all_append (parent_known q) (both refl (both refl (both refl (both refl (both refl all_none))))))))

map-known : (ms : List Map) (q : Call) → All Known (map_checks ms q)
unfolding map_checks known any
map-known ms (create m p) = all_none
map-known ms (mkdir m p) = all_none
map-known ms (open_as r p) = all_none
map-known ms (close h) = all_none
map-known ms (seek h n) = all_none
map-known ms (read h n) = all_none
map-known ms (write h d) = all_none
map-known ms (truncate h n) = all_none
map-known ms (remove p) = all_none
map-known ms (rmdir p) = all_none
map-known ms (chmod m p) = all_none
map-known ms (readdir p) = all_none
map-known ms (stat p) = all_none
map-known ms (map_memory n) = both refl all_none
map-known ms (unmap a) = both refl all_none
map-known ms (rename p q) = all_none

pub checks_known : (c : Config) (sk : Skeleton) (e : Event) → All (λ (ch : Check). known ch.0 ≡ true) (event_checks c sk e)
unfolding event_checks known any
checks_known c sk (call s a q) =
    both refl (both refl (both refl (both refl
    (all_append (call_known sk.tables (call_or (read_call c.width s))) (map-known sk.maps (call_or (read_call c.width s)))))))
checks_known c sk (reply r a q) = both refl (both refl (both refl all_none))
checks_known c sk (save n) = both refl (both refl (both refl (both refl all_none)))
checks_known c sk (load v i d) = both refl (both refl (both refl (both refl (both refl all_none))))

-- A move that is no refusal; if a stop, one for a reason; if a request, one that something waits for; a call given up
-- only where that may be.
abbrev pub Acts : (may_give_up : Bool) → Move → Type 0
Acts u (refuse n) = ⊥
Acts u (halt n) = is_reason n ≡ true
Acts u (send p q) = is_idle p ≡ false
Acts u (finish t n b) = Unit {0}
Acts u (add n) = Unit {0}
Acts u (delete k) = Unit {0}
Acts u (remap x) = Unit {0}
Acts u (read_page k o p n i r) = Unit {0}
Acts u (begin k o q) = Unit {0}
Acts u (fill_page k o q i r) = Unit {0}
Acts u (stored k o q i) = Unit {0}
Acts u (cut_done k o q) = Unit {0}
Acts u (keep_pages k o q i) = Unit {0}
Acts u give_up = u ≡ true
Acts u saving = Unit {0}
Acts u (loading i d) = Unit {0}

call_acts : (u : Bool) (t : Tables) (w : ℕ) (q : Call) → Acts u (call_action t w q)
unfolding call_action read_action is_idle
call_acts u t w (create m p) = refl
call_acts u t w (mkdir m p) = refl
call_acts u t w (open_as r p) = refl
call_acts u t w (close h) = refl
call_acts u t w (seek h n) = tt
call_acts u t w (read h n) = pick_ind (Acts u) _ (λ _. tt) (λ _. refl)
call_acts u t w (write h d) = pick_ind (Acts u) _ (λ _. tt) (λ _. tt)
call_acts u t w (truncate h n) = pick_ind (Acts u) _ (λ _. tt) (λ _. tt)
call_acts u t w (remove p) = refl
call_acts u t w (rmdir p) = refl
call_acts u t w (chmod m p) = refl
call_acts u t w (readdir p) = refl
call_acts u t w (stat p) = refl
call_acts u t w (map_memory n) = refl
call_acts u t w (unmap a) = refl
call_acts u t w (rename p q) = pick_ind (Acts u) (same_path t p q) (λ _. tt) (λ _. refl)

module _ (w : ℕ) (t : Tables) (r : List ℕ) where
  reply_reasons : (p : Pending) → All Reason (reply_checks w t r p)
  unfolding reply_checks is_reason
  reply_reasons idle = all_none
  reply_reasons (asked (creating p k m name)) = both refl (both refl all_none)
  reply_reasons (asked (opening k rights)) = both refl (both refl all_none)
  reply_reasons (asked (closing o)) = both refl (both refl all_none)
  reply_reasons (asked (removing k)) = both refl (both refl all_none)
  reply_reasons (asked (changing k m)) = both refl (both refl all_none)
  reply_reasons (asked (listing k)) = both refl all_none
  reply_reasons (asked (stating k)) = both refl (both refl all_none)
  reply_reasons (asked (mapping n)) = both refl all_none
  reply_reasons (asked (unmapping a)) = both refl (both refl all_none)
  reply_reasons (asked (renaming k p name)) = both refl (both refl all_none)
  reply_reasons (reading k o p n i) = both refl all_none
  reply_reasons (fetching k o q i) = both refl all_none
  reply_reasons (storing k o q i) = both refl (both refl all_none)
  reply_reasons (cutting k o q) = both refl (both refl all_none)

  map_reasons_lem : (ms : List Map) (p : Pending) → All Reason (map_reasons ms r p)
  unfolding map_reasons map_faults is_reason
  map_reasons_lem ms idle = all_none
  map_reasons_lem ms (asked (creating p k m name)) = all_none
  map_reasons_lem ms (asked (opening k rights)) = all_none
  map_reasons_lem ms (asked (closing o)) = all_none
  map_reasons_lem ms (asked (removing k)) = all_none
  map_reasons_lem ms (asked (changing k m)) = all_none
  map_reasons_lem ms (asked (listing k)) = all_none
  map_reasons_lem ms (asked (stating k)) = all_none
  map_reasons_lem ms (asked (mapping n)) = both refl (both refl (both refl (both refl (both refl all_none))))
  map_reasons_lem ms (asked (unmapping a)) = all_none
  map_reasons_lem ms (asked (renaming k p name)) = all_none
  map_reasons_lem ms (reading k o p n i) = all_none
  map_reasons_lem ms (fetching k o q i) = all_none
  map_reasons_lem ms (storing k o q i) = all_none
  map_reasons_lem ms (cutting k o q) = all_none

  reply_acts : (u : Bool) (p : Pending) → is_idle p ≡ false → Acts u (reply_action w t r p)
  unfolding reply_action is_idle
  reply_acts u idle e = absurd (true≢false e)
  reply_acts u (asked (creating p k m name)) e = tt
  reply_acts u (asked (opening k rights)) e = tt
  reply_acts u (asked (closing o)) e = tt
  reply_acts u (asked (removing k)) e = tt
  reply_acts u (asked (changing k m)) e = tt
  reply_acts u (asked (listing k)) e = tt
  reply_acts u (asked (stating k)) e = tt
  reply_acts u (asked (mapping n)) e = tt
  reply_acts u (asked (unmapping a)) e = tt
  reply_acts u (asked (renaming k p name)) e = tt
  reply_acts u (reading k o p n i) e = tt
  reply_acts u (fetching k o q i) e = tt
  reply_acts u (storing k o q i) e = tt
  reply_acts u (cutting k o q) e = tt

full_acts : (p : Pending) → Acts true (full_action p)
unfolding full_action
full_acts idle = refl
full_acts (asked x) = refl
full_acts (reading k o p n i) = refl
full_acts (fetching k o q i) = refl
full_acts (storing k o q i) = pick_ind (Acts true) (ltb (first q) i) (λ _. tt) (λ _. refl)
full_acts (cutting k o q) = refl

not-true : (b : Bool) → not b ≡ true → b ≡ false
not-true true e = absurd (true≢false (sym e))
not-true false e = refl

module _ (c : Config) (sk : Skeleton) where
  -- a reply that does not tell a full disk is judged
  judged_acts : (u : Bool) (r : List ℕ) → is_idle sk.pending ≡ false
      → Acts u (decide halt (reasons c.width sk r) (reply_action c.width sk.tables r sk.pending))
  unfolding reasons
  judged_acts u r i =
      decide_ind halt (Acts u) (reasons c.width sk r) _
      (λ n f. first-has (all_append (reply_reasons c.width sk.tables r sk.pending) (map_reasons_lem c.width sk.tables r sk.maps sk.pending)) f)
      (λ _. reply_acts c.width sk.tables r u sk.pending i)

  pub action_acts : (e : Event) → Passed (event_checks c sk e) → Acts true (event_action c sk e)
  unfolding event_checks event_action
  action_acts (call s a q) p = call_acts true sk.tables c.width (call_or (read_call c.width s))
  action_acts (reply r a q) (both _ (both i _)) =
      pick_ind (Acts true) (tells_full c.width r sk.pending) (λ _. full_acts sk.pending)
      (λ _. judged_acts true r i)
  action_acts (save n) p = tt
  action_acts (load v i d) p = tt

  -- an event is refused n exactly where n is the first of its numbers whose condition holds
  pub refused_exactly : (e : Event) (n : ℕ) → (judge c sk e ≡ refuse n) ↔ First n (event_checks c sk e)
  unfolding judge
  refused_exactly e n =
      decide_exactly refuse (event_checks c sk e) (event_action c sk e) n (λ p m q. subst (Acts true) q (action_acts e p))
      (λ m k q. cc)

  -- a call is given up exactly where no number holds, the host says that the disk is full where it may, and no page is finished
  full-gives : (p : Pending) → (full_action p ≡ give_up) ↔ (finished p ≡ false)
  unfolding full_action
  full-gives idle = (λ _. refl, λ _. refl)
  full-gives (asked x) = (λ _. refl, λ _. refl)
  full-gives (reading k o p n i) = (λ _. refl, λ _. refl)
  full-gives (fetching k o q i) = (λ _. refl, λ _. refl)
  full-gives (storing k o q i) = go (is (ltb (first q) i))
    where
      go : Is (ltb (first q) i) → (pick (ltb (first q) i) (keep_pages k o q i) give_up ≡ give_up) ↔ (ltb (first q) i ≡ false)
      go (is_t e) = (
        λ x. absurd (false≢true (subst (Acts false) (sym (pick_true _ _ _ e) ∙ x) tt)),
        λ x. absurd (true≢false (sym e ∙ x)),
      )
      go (is_f e) = (λ _. e, λ _. pick-false _ _ _ e)
  full-gives (cutting k o q) = (λ _. refl, λ _. refl)

  up_to : (e : Event) → Passed (event_checks c sk e) → event_action c sk e ≡ give_up → gives_up c sk e ≡ true
  unfolding event_checks event_action gives_up
  up_to (call s a q) p x =
      let acts = call_acts false sk.tables c.width (call_or (read_call c.width s)) in
      absurd (false≢true (subst (Acts false) x acts))
  up_to (reply r a q) (both _ (both i _)) x = go (is (tells_full c.width r sk.pending))
    where
      go : Is (tells_full c.width r sk.pending) → (tells_full c.width r sk.pending && not (finished sk.pending)) ≡ true
      go (is_t e) = and_both _ _ e (ap not ((full-gives sk.pending).0 (sym (pick_true _ _ _ e) ∙ x)))
      go (is_f e) = absurd (false≢true (subst (Acts false) (sym (pick-false _ _ _ e) ∙ x) (judged_acts false r i)))
  up_to (save n) p x = absurd (false≢true (subst (Acts false) x tt))
  up_to (load v i d) p x = absurd (false≢true (subst (Acts false) x tt))

  up_from : (e : Event) → gives_up c sk e ≡ true → event_action c sk e ≡ give_up
  unfolding event_action gives_up
  up_from (call s a q) g = absurd (true≢false (sym g))
  up_from (reply r a q) g =
      let f = and_fst (tells_full c.width r sk.pending) _ g in
      let n = and_snd (tells_full c.width r sk.pending) _ g in
      pick_true _ _ _ f ∙ (full-gives sk.pending).1 (not-true _ n)
  up_from (save n) g = absurd (true≢false (sym g))
  up_from (load v i d) g = absurd (true≢false (sym g))

  pub gives_up_exactly : (e : Event) → (judge c sk e ≡ give_up) ↔ (Passed (event_checks c sk e) × (gives_up c sk e ≡ true))
  unfolding judge
  gives_up_exactly e = (
    decide_ind refuse (λ m. m ≡ give_up → Passed (event_checks c sk e) × (gives_up c sk e ≡ true)) (event_checks c sk e) (event_action c sk e)
        (λ n f x. absurd (let z : ◌≡◌ {A = ℕ} 0 1 = cc in omega arith)) (λ p x. (p, up_to e p x)),
    λ (p, g). decide_passed refuse _ _ p ∙ up_from e g,
  )

  pub halt_reason : (e : Event) (n : ℕ) → judge c sk e ≡ halt n → is_reason n ≡ true
  unfolding judge
  halt_reason e n =
      decide_ind refuse (λ m. m ≡ halt n → is_reason n ≡ true) (event_checks c sk e) (event_action c sk e)
      (λ m f q. absurd (let z : ◌≡◌ {A = ℕ} 0 1 = cc in omega arith)) (λ p q. subst (Acts true) q (action_acts e p))

-- SPECIFICATION 13.3: a reply that no reason stops is acted on, where it does not say that the disk is full.
pub reply_goes : (c : Config) (sk : Skeleton) (r : List ℕ) (a q : ℕ) → Passed (event_checks c sk (reply r a q))
    → tells_full c.width r sk.pending ≡ false → Passed (reasons c.width sk r)
    → judge c sk (reply r a q) ≡ reply_action c.width sk.tables r sk.pending
unfolding judge event_action
reply_goes c sk r a q p f h = decide_passed refuse _ _ p ∙ (pick-false _ _ _ f ∙ decide_passed halt _ _ h)

-- SPECIFICATION 13.3: no false 28 or 24, and seek.
module _ (t : Tables) where
  -- the number n, where it is the first, says C
  abbrev Says : ℕ → Type 0 → Check → Type 0
  Says n C ch = ch.0 ≡ n → ch.1 ≡ true → C

  abbrev Full : Check → Type 0
  Full ch = Says 28 (NODES ≤ length t.nodes) ch

  new-full : (p : Path) → First 28 (call_checks t (create 0 p)) → NODES ≤ length t.nodes
  unfolding call_checks
  new-full p f =
      first-has {F = Full} (both (λ q. absurd (omega arith))
      (all_append (all_parent Full (λ b q. absurd (omega arith)) (λ b q. absurd (omega arith)) (λ b q. absurd (omega arith)) t.nodes 0 p)
      (both (λ q. absurd (omega arith)) (both (λ q. absurd (omega arith)) (both (λ _ b. leb-true _ _ b) all_none))))) f refl refl

  -- 28 only where 256 nodes stand
  pub create-full : (m : ℕ) (p : Path) → First 28 (call_checks t (create m p)) → NODES ≤ length t.nodes
  unfolding call_checks
  create-full m p f = new-full p f

  pub mkdir-full : (m : ℕ) (p : Path) → First 28 (call_checks t (mkdir m p)) → NODES ≤ length t.nodes
  unfolding call_checks
  mkdir-full m p f = new-full p f

  abbrev Many : Check → Type 0
  Many ch = Says 24 (OPEN_FILES ≤ length t.opens) ch

  -- 24 only where 32 files are open
  pub open_full : (r : ℕ) (p : Path) → First 24 (call_checks t (open_as r p)) → OPEN_FILES ≤ length t.opens
  unfolding call_checks
  open_full r p f =
      first-has {F = Many} (both (λ q. absurd (omega arith))
      (all_append (all_walk Many (λ b q. absurd (omega arith)) (λ b q. absurd (omega arith)) (λ b q. absurd (omega arith)) t.nodes 0 p)
      (both (λ q. absurd (omega arith)) (both (λ q. absurd (omega arith)) (both (λ q. absurd (omega arith)) (both (λ _ b. leb-true _ _ b) all_none)))))) f refl refl

-- A call in range, with long enough buffers, while nothing stands: its own checks decide.
pub judge-call : (c : Config) (sk : Skeleton) (q : Call) (a b : ℕ) → CallFits c.width q → sk.stopped ≡ false → sk.pending ≡ idle → answer_length c ≤ a
    → request_length c ≤ b
    → judge c sk (call (call_bytes c.width q) a b) ≡ decide refuse (call_checks sk.tables q ++ map_checks sk.maps q) (call_action sk.tables c.width q)
unfolding judge event_checks event_action decide is_idle is_none call_or
judge-call c sk q a b f running quiet h l =
    let e = call_read_back c.width q f in
    pick-false _ _ _ running
    ∙ (pick-false _ _ _ (ap (λ p. not (is_idle p)) quiet)
    ∙ (pick-false _ _ _ (or_both _ _ (le-ltb _ _ h) (le-ltb _ _ l))
    ∙ (pick-false _ _ _ (ap is_none e)
    ∙ ap (λ o. decide refuse (call_checks sk.tables (call_or o) ++ map_checks sk.maps (call_or o)) (call_action sk.tables c.width (call_or o))) e)))

-- On fresh tables a create of a name that is not too long passes.
pub fresh-create-passes : (m : ℕ) (x : List ℕ) → length x ≤ NAME_BYTES → Passed (call_checks fresh_tables (create m (x ∷ [])))
unfolding call_checks parent_checks walk child_at find_child parent_of node_at too_long any path_bytes joined place pick
fresh-create-passes m x h =
    let l = length-append x [] in
    both (or_both _ _ (or_both _ _ (le-ltb _ _ h) refl) (le-ltb PATH_BYTES (suc (length (x ++ []))) (omega arith)))
    (both refl (both refl (both refl (both refl (both refl all_none)))))
