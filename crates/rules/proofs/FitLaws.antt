-- The rules come to fitting moves: where no number of an event's list holds, what is to be done can be done.
-- Assumes nothing.
use Rattle.std.specs.Prelude.{◌≡◌, ◌⊎◌, Bool, true, ◌&&◌, ℕ, zero, suc, ◌+◌, ◌-◌, ◌*◌, ◌^◌, max, ◌≤◌, ◌<◌, leb, get_or}
use Rattle.std.proofs.Math.Path.{refl, ap, subst}
use Rattle.std.proofs.Common.{sym, ◌∙◌, inl, inr, true≢false}
use Rattle.std.proofs.Math.Bool.{false, not}
use Rattle.std.proofs.lemmas.Bool.{false≢true}
use mathlib.Core.List.{List, [], ◌∷◌, ◌++◌}
use Rattle.std.proofs.Math.Option.{Option, some, none}
use native.Mathlib.Omega.{arith}
use Rattle.std.proofs.Math.Dec.{eqb, ltb}
use Rattle.std.proofs.Math.ListN.{length}
use Rattle.std.proofs.Math.Seq.{map-set_same}
use borrow.Author.Tests.{eqb-true, eqb-false, ltb-true, ltb-false, leb-false, eq-eqb, not-false}
use Rattle.lists.specs.Pick.{pick_ind}
use Rattle.lists.specs.Equal.{Is, is_t, is_f, is, equal_true, and_fst, and_snd, or_fst, or_snd}
use Rattle.lists.specs.All.{All, both, Bytes, all_left, all_right, all_head, all_tail, all_get}
use Rattle.lists.specs.Search.{every, any, place-passes}
use Rattle.lists.specs.Places.{place_none}
use Rattle.lists.specs.Signed.{signed}
use Rattle.lists.specs.LittleEndian.{decode, decode_below}
use Rattle.lists.specs.Checks.{Check, Passed, decide_ind}
use Rattle.filesystem.specs.Tables.{OPEN_FILES, FILE_BYTES, NAME_BYTES, PATH_BYTES, Node, OpenFile, Tables, is_file, is_directory, has_bit, has_handle, no_node, no_open_file, node_at, open_at, absent, present, find_id, find_handle, children, set_mode}
use Rattle.filesystem.specs.Tables.{renamed}
use Rattle.filesystem.specs.Rights.{covers}
use Rattle.filesystem.specs.Paths.{Path, path_bytes, joined, component_form, too_long, child_at, walk, walk_checks, parent_checks, parent_of, last_of}
use Rattle.filesystem.specs.PathLaws.{walk-place, walk-last, parent_place}
use Rattle.filesystem.specs.Image.{Image, Version, layout_of, parse}
use Rattle.filesystem.specs.Sound.{gone, Sound, to_sound, limits_at, by_kind, find_id_only}
use Rattle.filesystem.specs.SoundLaws.{root_parent_length, file-children}
use Rattle.rules.specs.Calls.{Call, create, mkdir, open_as, close, seek, read, write, truncate, remove, rmdir, chmod, readdir, stat, call_bytes, read_call, map_memory, unmap}
use Rattle.rules.specs.Calls.{rename}
use Rattle.filesystem.specs.Renaming.{Movable}
use Rattle.rules.proofs.CallLaws.{PathFits, CallFits, call-was-written}
use Rattle.rules.specs.Pages.{page_at, writing, truncating, first, size_after}
use Rattle.rules.specs.Requests.{asked, close_request, fetch_request, is_fetch, Pending, idle, creating, opening, closing, removing, changing, listing, stating, reading, fetching, storing, cutting, mapping, unmapping}
use Rattle.rules.specs.Requests.{renaming}
use Rattle.rules.specs.Skeleton.{Config, Event, call, reply, save, load, EventBytes, Skeleton}
use Rattle.rules.specs.Rules.{Move, refuse, halt, give_up, loading, target, holder, is_open, open_place, file_place, opened, file, no_room, new_checks, call_checks, read_action, call_action, signed_of, is_descriptor, reply_checks, reply_action, tells_full, finished, full_action, is_idle, call_or, image_or, is_none, event_checks, event_action, gives_up, judge, map_reasons, reasons}
use Rattle.rules.specs.Rules.{same_path, rename_checks}
use Rattle.rules.specs.Valid.{ValidOpen, ValidTables, Valid, CreatingFits, OpeningFits, RemovingFits, Opened, ChangeFits, PendingFits, sizes, Plain, Fits, f_refuse, f_halt, f_send, f_finish, f_add, f_delete, f_read_page, f_begin, f_fill_page, f_stored, f_cut_done, f_keep_pages, f_give_up, f_saving, f_loading, f_remap}
use Rattle.rules.proofs.Positions.{seek_exactly}
use Rattle.rules.proofs.TableLaws.{cursor_valid, open_valid, close_valid, mode_valid, add_valid, delete_valid}
use Rattle.rules.proofs.TableLaws.{rename_valid}

-- a place that is not absent
there : {A : Type 0} (l : List A) (k : ℕ) → absent l k ≡ false → k < length l
there l k e = leb-false _ _ e

-- Paths.
last-form : (c : List ℕ) (cs : Path) → every component_form (c ∷ cs) ≡ true → component_form (last_of (c ∷ cs)) ≡ true
unfolding every last_of
last-form c [] e = and_fst _ _ e
last-form c (d ∷ cs) e = last-form d cs (and_snd (component_form c) _ e)

last_all : {F : List ℕ → Type 0} (c : List ℕ) (cs : Path) → All F (c ∷ cs) → F (last_of (c ∷ cs))
unfolding last_of
last_all c [] (both f a) = f
last_all c (d ∷ cs) (both f a) = last_all d cs a

last-bytes : (p : Path) → All Bytes p → Bytes (last_of p)
unfolding last_of
last-bytes [] a = All.none
last-bytes (c ∷ cs) a = last_all c cs a

last-short : (c : List ℕ) (cs : Path) → any (λ c. ltb NAME_BYTES (length c)) (c ∷ cs) ≡ false → length (last_of (c ∷ cs)) ≤ NAME_BYTES
unfolding any last_of
last-short c [] e = ltb-false _ _ (or_fst _ _ e)
last-short c (d ∷ cs) e = last-short d cs (or_snd (ltb NAME_BYTES (length c)) _ e)

pub none_left : {A : Type 0} (l : List A) → length l ≤ 0 → l ≡ []
none_left [] h = refl
none_left (x ∷ l) h = absurd (omega arith)

-- a descriptor in range is its own number
descriptor_low : (r : List ℕ) → is_descriptor (signed_of r) ≡ true → decode r < 1024
unfolding signed is_descriptor
descriptor_low r = pick_ind (λ z. is_descriptor z ≡ true → decode r < 1024) (ltb (2 * decode r) (256 ^ 4)) (λ _ e. ltb-true _ _ e) (λ _ e. absurd (false≢true e))

same_sizes : (ns : List Node) (k m : ℕ) → sizes (set_mode ns k m) ≡ sizes ns
unfolding set_mode node_at
same_sizes ns k m = map-set_same (λ n. n.size) ns k _ no_node refl

renamed-sizes : (ns : List Node) (k p : ℕ) (name : List ℕ) → sizes (renamed ns k p name) ≡ sizes ns
unfolding renamed node_at
renamed-sizes ns k p name = map-set_same (λ n. n.size) ns k _ no_node refl

-- a condition that is asked only of others
of_other : (same b : Bool) → same ≡ false → (not same && b) ≡ false → b ≡ false
of_other true b e h = absurd (true≢false e)
of_other false b e h = h

module _ (c : Config) (sk : Skeleton) (v : ValidTables c.width sk.tables) where
  abbrev w : ℕ
  w = c.width

  abbrev t : Tables
  t = sk.tables

  abbrev ns : List Node
  ns = sk.tables.nodes

  abbrev os : List OpenFile
  os = sk.tables.opens

  is_sound : Sound c.width sk.tables.nodes
  is_sound = to_sound c.width sk.tables.nodes v.nodes_valid.sound

  -- a node that is no directory is a file
  other_kind : (k : ℕ) → k < length ns → is_directory (node_at ns k) ≡ false → is_file (node_at ns k) ≡ true
  other_kind k h e =
      by_kind (is_file (node_at ns k) ≡ true) (limits_at w ns is_sound k h) (λ a b. eq-eqb _ _ a)
      (λ a b. absurd (eqb-false _ _ e a))

  -- an open file, found by its handle
  handle_opened : (h : ℕ) → find_handle os h < length os
      → Opened ns os (find_id ns h) (find_handle os h) × ((open_at os (find_handle os h)).cursor ≤ (node_at ns (find_id ns h)).size)
  unfolding find_handle open_at
  handle_opened h l =
      let o = find_handle os h in
      let e : (open_at os o).handle ≡ h = eqb-true _ _ (place-passes (has_handle h) os no_open_file l) in
      let x : ValidOpen ns (open_at os o) = all_get o no_open_file os l v.opened in (
        record { known = subst (λ y. find_id ns y < length ns) e x.known; open_known = l; same = ap (find_id ns) e },
        subst (λ y. (open_at os o).cursor ≤ (node_at ns (find_id ns y)).size) e x.cursor_inside,
      )

  -- a directory is not open
  directory_closed : (k : ℕ) → k < length ns → is_directory (node_at ns k) ≡ true → length os ≤ find_handle os (node_at ns k).id
  unfolding find_handle
  directory_closed k h d = place_none (has_handle (node_at ns k).id) no_open_file os (λ o l. go o l (is (eqb (open_at os o).handle (node_at ns k).id)))
    where
      go : (o : ℕ) → o < length os → Is (eqb (open_at os o).handle (node_at ns k).id) → eqb (get_or os o no_open_file).handle (node_at ns k).id ≡ false
      go o l (is_f e) = unfold open_at in e
      go o l (is_t e) =
          let x : ValidOpen ns (open_at os o) = unfold open_at in all_get o no_open_file os l v.opened in
          let q : find_id ns (open_at os o).handle ≡ k = ap (find_id ns) (eqb-true _ _ e) ∙ find_id_only ns k h (λ i m r. is_sound.ids i k m h r) in
          let a : (node_at ns k).kind ≡ 1 = eqb-true _ _ (subst (λ i. is_file (node_at ns i) ≡ true) q x.is_file_lem) in
          let b : (node_at ns k).kind ≡ 2 = eqb-true _ _ d in
          absurd (omega arith)

  abbrev Fit : Event → Move → Type 0
  Fit e m = Fits c sk e m

  -- the end of the walk
  reached : (p : Path) → Passed (walk_checks ns 0 p) → walk ns 0 p < length ns
  reached p a = walk-place ns 0 p a is_sound.has-root

  new_fits : (p : Path) (kind m : ℕ) → PathFits p → (kind ≡ 1) ⊎ (kind ≡ 2) → m ≤ 7 → Passed (new_checks t p)
      → CreatingFits ns os (holder t p).id kind m (last_of p)
  unfolding too_long path_bytes walk parent_checks child_at
  new_fits [] kind m f k h (both _ (both e _)) = absurd (let z = gone ns 0 e in let y = is_sound.has-root in omega arith)
  new_fits (x ∷ xs) kind m f k h a =
      let p = x ∷ xs in
      let before = all_left ((36, too_long p) ∷ parent_checks ns 0 p) _ a in
      let after = all_right ((36, too_long p) ∷ parent_checks ns 0 p) _ a in
      let long : too_long p ≡ false = all_head before in
      let (l, d, b) = parent_place ns 0 x xs (all_tail before) is_sound.has-root in
      let new : length ns ≤ walk ns 0 p = gone ns (walk ns 0 p) (all_head after) in
      let path = root_parent_length w ns v.nodes_valid.sound x xs (all_tail before) in
      let room : length ns < 256 = leb-false _ _ (all_head (all_tail (all_tail after))) in
      let total : length (joined p) ≤ PATH_BYTES = ltb-false _ _ (or_snd (any (λ c. ltb NAME_BYTES (length c)) p) _ long) in
      record {
        at = parent_of ns 0 p;
        known = l;
        directory = d;
        is_parent = refl;
        new = subst (λ i. length ns ≤ i) (walk-last ns 0 x xs) new;
        form = last-form x xs f.form;
        short = last-short x xs (or_fst _ _ long);
        bytes = last_all x xs f.bytes;
        path_short = omega arith;
        kinds = k;
        modes = h;
        room = room;
      }

  -- a change that begins
  pub grow_fits : (h : ℕ) (d : List ℕ) → find_handle os h < length os → (length d ≡ 0 → ⊥) → ltb FILE_BYTES ((opened t h).cursor + length d) ≡ false
      → no_room t (file_place t h) (max (file t h).size ((opened t h).cursor + length d)) ≡ false → ChangeFits ns os (file_place t h) (open_place t h) (writing (opened t h).cursor d)
  unfolding size_after no_room
  grow_fits h d l n a b =
      let (o, cur) = handle_opened h l in
      let m : (opened t h).cursor + length d ≤ FILE_BYTES = ltb-false _ _ a in
      let s : (file t h).size ≤ FILE_BYTES = by_kind ((file t h).size ≤ FILE_BYTES) (limits_at w ns is_sound (file_place t h) o.known) (λ x y. y)
      (λ x y. omega arith) in
      record { opened = o; fits = (cur, omega arith); most = omega arith; room = ltb-false _ _ b }

  pub truncate_fits : (h n : ℕ) → find_handle os h < length os → (n ≡ (file t h).size → ⊥) → ltb FILE_BYTES n ≡ false → no_room t (file_place t h) n ≡ false
      → ChangeFits ns os (file_place t h) (open_place t h) (truncating (file t h).size n)
  unfolding size_after no_room truncating
  truncate_fits h n l d a b =
      let (o, cur) = handle_opened h l in
      let m : n ≤ FILE_BYTES = ltb-false _ _ a in
      pick_ind (ChangeFits ns os (file_place t h) (open_place t h)) (ltb n (file t h).size)
      (λ x. record { opened = o; fits = ltb-true n (file t h).size x; most = m; room = ltb-false _ _ b })
      (λ x. let z : (file t h).size ≤ n = ltb-false n (file t h).size x in record { opened = o; fits = omega arith; most = m; room = ltb-false _ _ b })

  removing_fits : (p : Path) → Passed (walk_checks ns 0 p) → is_directory (target t p) ≡ false → present os (find_handle os (target t p).id) ≡ false
      → RemovingFits ns os (walk ns 0 p)
  removing_fits p a d o =
      let l = reached p a in
      let f = other_kind (walk ns 0 p) l d in
      record { known = l; not_root = go (walk ns 0 p) d; empty = file-children w ns (walk ns 0 p) l v.nodes_valid.sound f; closed = gone os _ o }
    where
      go : (k : ℕ) → is_directory (node_at ns k) ≡ false → 0 < k
      go zero e = absurd (true≢false (sym (and_fst _ _ (and_snd (eqb (node_at ns 0).id 1) _ is_sound.root-first)) ∙ e))
      go (suc k) e = omega arith

  -- Each call.
  reach-walk : (p : Path) (more : List Check) → Passed (((36, too_long p) ∷ walk_checks ns 0 p) ++ more) → Passed (walk_checks ns 0 p) × Passed more
  reach-walk p more a = (all_tail (all_left ((36, too_long p) ∷ walk_checks ns 0 p) more a), all_right ((36, too_long p) ∷ walk_checks ns 0 p) more a)

  read_fits : (e : Event) → Plain e → (h n : ℕ) → find_handle os h < length os → n ≤ (file t h).size - (opened t h).cursor → Fit e (read_action t w h n)
  unfolding read_action is_fetch fetch_request page_at
  read_fits e pl h n l m =
      let (o, cur) = handle_opened h l in
      pick_ind (Fit e) (eqb n 0) (λ _. f_finish pl v refl)
      (λ x. let z : n ≡ 0 → ⊥ = eqb-false n 0 x in f_send {p = reading (file_place t h) (open_place t h) (opened t h).cursor n (page_at (opened t h).cursor)} (record { opened = o; within = omega arith; from = omega arith; to = omega arith }) refl refl)

  opening_fits : (r : ℕ) (p : Path) → r ≤ 3 → Passed (walk_checks ns 0 p)
      → Passed ((21, is_directory (target t p)) ∷ (13, not (covers (target t p).mode r)) ∷ (16, is_open t (target t p)) ∷ (24, leb OPEN_FILES (length os)) ∷ [])
      → OpeningFits ns os (walk ns 0 p) r
  opening_fits r p l x (both dir (both _ (both o (both room _)))) =
      record { known = reached p x; is_file_lem = other_kind _ (reached p x) dir; closed = gone os _ o; rights_fit = l; room = leb-false _ _ room }

  rmdir_fits : (p : Path) → Passed (walk_checks ns 0 p)
      → Passed ((16, eqb (walk ns 0 p) 0) ∷ (20, not (is_directory (target t p))) ∷ (13, not (has_bit 2 (holder t p))) ∷ (39, ltb 0 (length (children ns (target t p).id))) ∷ [])
      → RemovingFits ns os (walk ns 0 p)
  rmdir_fits p x (both root (both dir (both _ (both kids _)))) =
      let z : walk ns 0 p ≡ 0 → ⊥ = eqb-false _ _ root in
      record {
        known = reached p x;
        not_root = omega arith;
        empty = none_left _ (ltb-false _ _ kids);
        closed = directory_closed _ (reached p x) (not-false _ dir);
      }

  remove_fits : (p : Path) → Passed (walk_checks ns 0 p)
      → Passed ((21, is_directory (target t p)) ∷ (13, not (has_bit 2 (holder t p))) ∷ (16, is_open t (target t p)) ∷ [])
      → RemovingFits ns os (walk ns 0 p)
  remove_fits p x (both dir (both _ (both o _))) = removing_fits p x dir o

  -- a renaming that is not refused, and not to the same path
  pub rename_movable : (p q : Path) → PathFits q → too_long q ≡ false → Passed (walk_checks ns 0 p)
      → Passed (parent_checks ns 0 q) → Passed (rename_checks t p q)
      → same_path t p q ≡ false → Movable ns (walk ns 0 p) (parent_of ns 0 q) (last_of q)
  unfolding walk too_long child_at
  rename_movable p [] f g x y (both root (both free _)) e = absurd
      (let z = gone ns 0 (of_other _ _ e free) in let y = is_sound.has-root in omega arith)
  rename_movable p (n ∷ q) f g x y (both root (both free (both within (both _ (both deep _))))) e =
      let (l, d, b) = parent_place ns 0 n q y is_sound.has-root in
      let z : walk ns 0 p ≡ 0 → ⊥ = eqb-false _ _ root in
      record {
        known = reached p x;
        not_root = omega arith;
        folder = d;
        not_within = of_other _ _ e within;
        new-name = subst (λ i. length ns ≤ i) (walk-last ns 0 n q) (gone ns (walk ns 0 (n ∷ q)) (of_other _ _ e free));
        form = last-form n q f.form;
        short = last-short n q (or_fst _ _ g);
        shallow = of_other _ _ e deep;
      }

  call_fits : (e : Event) → Plain e → (q : Call) → CallFits w q → Passed (call_checks t q) → Fit e (call_action t w q)
  unfolding call_checks call_action call_bytes is_fetch close_request
  call_fits e pl (create m p) (h, f) a = f_send (new_fits p 1 m f (inl refl) h a) tt refl
  call_fits e pl (mkdir m p) (h, f) a = f_send (new_fits p 2 m f (inr refl) h a) tt refl
  call_fits e pl (open_as r p) ((_, l), f) a = let (x, y) = reach-walk p _ a in f_send (opening_fits r p l x y) tt refl
  call_fits e pl (close h) f (both o _) = f_send (there os _ o) tt refl
  call_fits e pl (seek h n) f a =
      let (o, l) = (seek_exactly t h n).0 a in
      f_finish pl (cursor_valid w t (file_place t h) (open_place t h) n v (handle_opened h o).0 l) refl
  call_fits e pl (read h n) f (both o _) = read_fits e pl h _ (there os _ (or_fst _ _ o)) (omega arith)
  call_fits e pl (write h d) f (both o (both big (both room _))) =
      pick_ind (Fit e) (eqb (length d) 0) (λ _. f_finish pl v refl) (λ x. f_begin pl (grow_fits h d (there os _ (or_fst _ _ o)) (eqb-false _ _ x) big room))
  call_fits e pl (truncate h n) f (both o (both big (both room _))) =
      pick_ind (Fit e) (eqb n (file t h).size) (λ _. f_finish pl v refl)
      (λ x. f_begin pl (truncate_fits h n (there os _ (or_fst _ _ o)) (eqb-false _ _ x) big room))
  call_fits e pl (remove p) f a = let (x, y) = reach-walk p _ a in f_send (remove_fits p x y) tt refl
  call_fits e pl (rmdir p) f a = let (x, y) = reach-walk p _ a in f_send (rmdir_fits p x y) tt refl
  call_fits e pl (chmod m p) (h, f) (both _ a) =
      f_send {p = asked (changing (walk ns 0 p) m)} (record { known = reached p a; modes = h }) tt refl
  call_fits e pl (readdir p) f a = let (x, y) = reach-walk p _ a in f_send (reached p x) tt refl
  call_fits e pl (stat p) f (both _ a) = f_send (reached p a) tt refl
  call_fits e pl (map_memory n) f a = f_send {p = asked (mapping n)} tt tt refl
  call_fits e pl (unmap x) f a = f_send {p = asked (unmapping x)} tt tt refl
  call_fits e pl (rename p q) (_, (_, f)) (both _ (both g a)) =
      let x = all_left (walk_checks ns 0 p) _ a in
      let b = all_right (walk_checks ns 0 p) _ a in
      let y = all_left (parent_checks ns 0 q) _ b in
      pick_ind (Fit e) (same_path t p q) (λ _. f_finish pl v refl)
      (λ n. f_send {p = asked (renaming (walk ns 0 p) (holder t q).id (last_of q))}
      (record {
        at = parent_of ns 0 q;
        movable = rename_movable p q f g x y
            (all_right (parent_checks ns 0 q) _ b) n;
        is_parent = refl;
        bytes = last-bytes q f.bytes;
      }) tt refl)

  -- Each reply.
  reply_fits : (r : List ℕ) (a b : ℕ) → Bytes r → (p : Pending) → sk.pending ≡ p → is_idle p ≡ false → PendingFits ns os p → Passed (reply_checks w t r p)
      → Fit (reply r a b) (reply_action w t r p)
  unfolding reply_checks reply_action is_idle
  reply_fits r a b bs idle e i f c = absurd (true≢false i)
  reply_fits r a b bs (asked (creating p k m name)) e i f (both l (both x _)) =
      let z : decode r ≡ 0 → ⊥ = eqb-false _ _ (or_fst _ _ x) in
      f_add tt refl (add_valid w t p k m name (decode r) v f (omega arith) (id_fits l) (gone ns _ (or_snd (eqb (decode r) 0) _ x)))
    where
      id_fits : not (eqb (length r) w) ≡ false → decode r < 256 ^ w
      id_fits l = subst (λ n. decode r < 256 ^ n) (eqb-true _ _ (not-false _ l)) (decode_below r bs)
  reply_fits r a b bs (asked (opening k rights)) e i f (both l (both x _)) =
      f_finish tt (open_valid w t k rights (decode r) v f (descriptor_low r (not-false _ (or_fst _ _ x))) (gone os _ (or_snd (not (is_descriptor (signed_of r))) _ x))) refl
  reply_fits r a b bs (asked (closing o)) e i f c = f_finish tt (close_valid w t o v f) refl
  reply_fits r a b bs (asked (removing k)) e i f c = f_delete tt (delete_valid w t k v f)
  reply_fits r a b bs (asked (changing k m)) e i f c = f_finish tt (mode_valid w t k m v f) (same_sizes ns k m)
  reply_fits r a b bs (asked (listing k)) e i f c = f_finish tt v refl
  reply_fits r a b bs (asked (stating k)) e i f c = f_finish tt v refl
  reply_fits r a b bs (asked (mapping n)) e i f c = f_remap tt
  reply_fits r a b bs (asked (unmapping x)) e i f c = f_remap tt
  reply_fits r a b bs (asked (renaming k p name)) e i f c = f_finish tt (rename_valid w t k p name v f)
      (renamed-sizes ns k p name)
  reply_fits r a b bs (reading k o p n j) e i f (both l _) = f_read_page refl e (eqb-true _ _ (not-false _ l)) f
  reply_fits r a b bs (fetching k o q j) e i f (both l _) = f_fill_page refl e (eqb-true _ _ (not-false _ l)) f
  reply_fits r a b bs (storing k o q j) e i f c = f_stored tt e f
  reply_fits r a b bs (cutting k o q) e i f c = f_cut_done tt e f

-- Every event.
none_open : (os : List OpenFile) → ltb 0 (length os) ≡ false → os ≡ []
none_open os e = none_left os (ltb-false _ _ e)

is_idle_lem : (p : Pending) → is_idle p ≡ true → p ≡ idle
unfolding is_idle
is_idle_lem idle e = refl
is_idle_lem (asked x) e = absurd (false≢true e)
is_idle_lem (reading k o p n i) e = absurd (false≢true e)
is_idle_lem (fetching k o q i) e = absurd (false≢true e)
is_idle_lem (storing k o q i) e = absurd (false≢true e)
is_idle_lem (cutting k o q) e = absurd (false≢true e)

module _ (c : Config) (sk : Skeleton) (v : Valid c.width sk) where
  read_call_fits : (s : List ℕ) (a b : ℕ) → Bytes s → (o : Option Call) → read_call c.width s ≡ o → is_none o ≡ false
      → Passed (call_checks sk.tables (call_or o))
      → Fits c sk (call s a b) (call_action sk.tables c.width (call_or o))
  unfolding is_none call_or
  read_call_fits s a b bs none e i p = absurd (true≢false i)
  read_call_fits s a b bs (some q) e i p = call_fits c sk v.tables (call s a b) tt q (call-was-written c.width s q bs e).1 p

  loading_fits : (k : Version) (image d : List ℕ) → sk.tables.opens ≡ [] → c.digest image ≡ d → (o : Option Image)
      → parse (layout_of c.width k) image ≡ o → is_none o ≡ false → Fits c sk (load k image d) (loading (image_or o) d)
  unfolding is_none image_or
  loading_fits k image d z h none e i = absurd (true≢false i)
  loading_fits k image d z h (some j) e i = f_loading refl z h e

  -- a full disk
  gives_up_lem : (r : List ℕ) (a b : ℕ) (p : Pending) → sk.pending ≡ p → tells_full c.width r p ≡ true → finished p ≡ false → Fits c sk (reply r a b) give_up
  unfolding gives_up
  gives_up_lem r a b p e y f = f_give_up refl (rw e (rw (y, f)))

  full_fits : (r : List ℕ) (a b : ℕ) (p : Pending) → sk.pending ≡ p → PendingFits sk.tables.nodes sk.tables.opens p → tells_full c.width r p ≡ true
      → Fits c sk (reply r a b) (full_action p)
  unfolding full_action
  full_fits r a b idle e f y = gives_up_lem r a b idle e y refl
  full_fits r a b (asked x) e f y = gives_up_lem r a b (asked x) e y refl
  full_fits r a b (reading k o p n i) e f y = gives_up_lem r a b (reading k o p n i) e y refl
  full_fits r a b (fetching k o q i) e f y = gives_up_lem r a b (fetching k o q i) e y refl
  full_fits r a b (storing k o q i) e f y =
      pick_ind (Fits c sk (reply r a b)) (ltb (first q) i)
      (λ z. f_keep_pages tt e f (and_fst _ _ y) (ltb-true _ _ z))
      (λ z. gives_up_lem r a b (storing k o q i) e y z)
  full_fits r a b (cutting k o q) e f y = gives_up_lem r a b (cutting k o q) e y refl

  action_fits : (e : Event) → EventBytes e → Passed (event_checks c sk e) → Fits c sk e (event_action c sk e)
  unfolding event_checks event_action EventBytes
  action_fits (call s a b) bs (both _ (both _ (both _ (both n p)))) = read_call_fits s a b bs (read_call c.width s) refl n (all_left _ _ p)
  action_fits (reply r a b) bs (both _ (both i _)) =
      pick_ind (Fits c sk (reply r a b)) (tells_full c.width r sk.pending) (λ y. full_fits r a b sk.pending refl v.pending y)
      (λ y. decide_ind halt (Fits c sk (reply r a b)) (reasons c.width sk r) _ (λ n f. f_halt refl y f)
      (λ p. reply_fits c sk v.tables r a b bs sk.pending refl i v.pending
      (unfold reasons in all_left (reply_checks c.width sk.tables r sk.pending) (map_reasons sk.maps r sk.pending) p)))
  action_fits (save n) bs (both _ (both i (both o _))) = f_saving refl (is_idle_lem sk.pending (not-false _ i)) (none_open _ o)
  action_fits (load k image d) bs (both _ (both i (both o (both h (both p _))))) =
      loading_fits k image d (none_open _ o) (equal_true _ _ (not-false _ h))
      (parse (layout_of c.width k) image) refl p

  fits_here : (e : Event) → EventBytes e → Fits c sk e (judge c sk e)
  unfolding judge
  fits_here e b = decide_ind refuse (Fits c sk e) (event_checks c sk e) (event_action c sk e) (λ n f. f_refuse f) (action_fits e b)

pub judge_fits : (c : Config) (sk : Skeleton) → Valid c.width sk → (e : Event) → EventBytes e → Fits c sk e (judge c sk e)
judge_fits c sk v e b = fits_here c sk v e b
