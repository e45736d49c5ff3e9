-- How long listings, requests and what a read gathers are.
-- Assumes nothing.
use Rattle.std.specs.Prelude.{◌≡◌, Bool, false, List, [], ◌∷◌, ◌++◌, map, ℕ, suc, ◌+◌, ◌-◌, ◌*◌, ◌≤◌, ◌<◌, min, max, eqb, ltb}
use Rattle.std.proofs.Math.Path.{refl, ap}
use Rattle.std.proofs.Common.{◌∙◌, true≢false, mul-le-mul_right, length-append}
use Rattle.std.proofs.Math.Option.{Option, some, none}
use native.Mathlib.Omega.{arith}
use Rattle.std.proofs.Math.ListN.{length}
use Rattle.std.proofs.lemmas.List.{length-map}
use borrow.Author.Tests.{eqb-true, ltb-false, ne_eqb, not-false}
use Rattle.lists.specs.Pick.{pick, pick-false, pick_ind}
use Rattle.lists.specs.Equal.{or_snd}
use Rattle.lists.specs.All.{All, both, Bytes, all_left}
use Rattle.lists.specs.Cells.{tab, length-tab}
use Rattle.lists.specs.Search.{any, select}
use Rattle.lists.specs.Places.{at_all}
use Rattle.lists.specs.LittleEndian.{encode, length-encode}
use Rattle.lists.specs.Form.{put_all}
use Rattle.lists.specs.Rearranged.{rearranged_length, rearranged_all, rearranged_self}
use Rattle.lists.specs.Checks.{Passed, decide_ind}
use Rattle.filesystem.specs.Tables.{DATA_BYTES, NAME_BYTES, PATH_BYTES, PAGE_BYTES, Node, no_node, Tables, has_parent, node_at, children}
use Rattle.filesystem.specs.Paths.{Path, path_bytes, too_long}
use Rattle.filesystem.specs.LongestImage.{leaf_name, leaf, full, full-sound, full-named}
use Rattle.filesystem.specs.Sound.{Sound, to_sound, limits_at, root_parent, name-short}
use Rattle.rules.specs.Calls.{Call, create, mkdir, open_as, close, seek, read, write, truncate, remove, rmdir, chmod, readdir, stat, call_bytes, read_call, map_memory, unmap}
use Rattle.rules.specs.Calls.{rename}
use Rattle.rules.proofs.CallLaws.{CallFits, call-was-written}
use Rattle.rules.specs.Pages.{page_at, bytes_at, page_part, overlay, Change, writing, shrinking, growing, first, fill}
use Rattle.rules.specs.Requests.{store_length, asked, close_request, fetch_request, store_request, Pending, idle, creating, opening, closing, removing, changing, listing, stating, reading, fetching, storing, cutting, mapping, unmapping}
use Rattle.rules.specs.Requests.{renaming}
use Rattle.rules.specs.Skeleton.{Config, Event, call, reply, save, load, EventBytes, answer_length, request_length, Skeleton}
use Rattle.rules.specs.Rules.{refuse, halt, send, begin, open_place, file_place, opened, file, Entry, entry_form, entry_of, call_checks, read_action, call_action, reply_checks, reply_action, tells_full, full_action, call_or, is_none, event_checks, event_action, judge, map_reasons, reasons}
use Rattle.rules.specs.RightReplies.{RightListing}
use Rattle.rules.specs.Valid.{ValidNodes, ValidTables, PendingFits, Valid}
use Rattle.rules.proofs.TableLaws.{bare_valid}
use Rattle.rules.proofs.ReplyLaws.{all_select, all_over, listing_right}
use Rattle.rules.specs.Modest.{Modest}

-- Listings: at most 255 entries, since the root is no child, each of at most w + 34 bytes.
length-select : {A : Type 0} (f : A → Bool) (xs : List A) → length (select f xs) ≤ length xs
unfolding select
length-select f [] = omega arith
length-select f (x ∷ xs) =
    let z = length-select f xs in
    pick_ind (λ l. length l ≤ suc (length xs)) (f x) {x = x ∷ select f xs} {y = select f xs} (λ _. omega arith) (λ _. omega arith)

children_most : (w : ℕ) (ns : List Node) → Sound w ns → (k : ℕ) → k < length ns → length (children ns (node_at ns k).id) ≤ 255
unfolding children select
children_most w [] s k h = absurd (omega arith)
children_most w (r ∷ ns) s k h =
    let i = (limits_at w (r ∷ ns) s k h).id_some in
    let p : r.parent ≡ 0 = unfold node_at in root_parent w (r ∷ ns) s in
    let e = pick-false _ (r ∷ select (has_parent (node_at (r ∷ ns) k).id) ns) (select (has_parent (node_at (r ∷ ns) k).id) ns)
    (ne_eqb r.parent (node_at (r ∷ ns) k).id (omega arith)) in
    let c = s.count in
    let l = length-select (has_parent (node_at (r ∷ ns) k).id) ns in
    omega (arith, ap length e)

entries_length : (w : ℕ) (es : List Entry) → All (λ (e : Entry). length e.1.1 ≤ NAME_BYTES) es → length (put_all (entry_form w) es) ≤ length es * (w + 34)
unfolding put_all entry_form
entries_length w [] a = omega arith
entries_length w (e ∷ es) (both h a) = let z = entries_length w es a in simp (length-append, length-encode) (omega arith)

pub listing_length : (w : ℕ) (t : Tables) (r : List ℕ) (k : ℕ) → ValidNodes w t.nodes → k < length t.nodes → RightListing w t r k
    → length r ≤ 255 * (w + 34)
unfolding children node_at
listing_length w t r k v h l =
    let s = to_sound w t.nodes v.sound in
    let kids = children t.nodes (node_at t.nodes k).id in
    let names : All (λ (e : Entry). length e.1.1 ≤ NAME_BYTES) (map entry_of kids) =
    all_over entry_of (all_select (has_parent (node_at t.nodes k).id) (at_all no_node t.nodes (name-short w t.nodes s))) in
    let most = entries_length w l.entries (rearranged_all l.each_once names) in
    let n : length l.entries ≡ length kids = rearranged_length l.each_once ∙ length-map kids entry_of in
    let c = children_most w t.nodes s k h in
    let m = mul-le-mul_right {m = length l.entries} {n = 255} (w + 34) (omega arith) in
    omega (arith, ap length l.bytes)

-- 9,690 at ids of four bytes, and valid tables whose root has a listing so long
pub answer_length_lem : (digest : List ℕ → List ℕ) → answer_length (record { digest = digest; width = 4 }) ≡ 9690
unfolding answer_length
answer_length_lem digest = refl

abbrev pub longest_tables : Tables
longest_tables = record { nodes = full; opens = [] }

pub longest_valid : ValidTables 4 longest_tables
longest_valid = bare_valid 4 full (record { sound = full-sound 4 (omega arith); named = full-named })

pub longest_listing : (r : List ℕ) × RightListing 4 longest_tables r 0 × (length r ≡ 9690)
longest_listing =
    let es = map entry_of (children full (node_at full 0).id) in (
      put_all (entry_form 4) es,
      record { entries = es; bytes = refl; each_once = rearranged_self es },
      unfold full leaf leaf_name tab children select node_at put_all entry_form encode pick in refl,
    )

pub path_short : (p : Path) → too_long p ≡ false → length (path_bytes p) ≤ PATH_BYTES
unfolding too_long
path_short p e = ltb-false _ _ (or_snd (any (λ c. ltb NAME_BYTES (length c)) p) _ e)

-- a store is the longest request
pub store_length_lem : (d i size : ℕ) (p : List ℕ) → length p ≡ PAGE_BYTES → length (store_request d i size p) ≡ store_length
unfolding store_request store_length encode
store_length_lem d i size p h = omega arith

pub fetch_short : (c : Config) (d i : ℕ) → length (fetch_request d i) ≤ request_length c
unfolding fetch_request request_length store_length encode
fetch_short c d i = omega arith

module _ (c : Config) (t : Tables) where
  no_bytes : 0 ≤ answer_length c
  no_bytes = omega arith

  reading_modest : (h n : ℕ) → n ≤ DATA_BYTES → Modest c (read_action t c.width h n)
  unfolding read_action page_at
  reading_modest h n l = pick_ind (Modest c) (eqb n 0) (λ _. no_bytes) (λ _. (fetch_short c _ _, (l, omega arith)))

  call_modest : (q : Call) → CallFits c.width q → Passed (call_checks t q) → Modest c (call_action t c.width q)
  unfolding call_checks call_action call_bytes close_request encode request_length store_length
  call_modest (create m p) f (both e _) = let z = path_short p e in (omega arith, tt)
  call_modest (mkdir m p) f (both e _) = let z = path_short p e in (omega arith, tt)
  call_modest (open_as r p) f (both e _) = let z = path_short p e in (omega arith, tt)
  call_modest (close h) f a = (omega arith, tt)
  call_modest (seek h n) f a = omega arith
  call_modest (read h n) (_, f) a = reading_modest h _ (omega arith)
  call_modest (write h d) f a = pick_ind (Modest c) (eqb (length d) 0) (λ _. no_bytes) (λ _. tt)
  call_modest (truncate h n) f a = pick_ind (Modest c) (eqb n _) (λ _. no_bytes) (λ _. tt)
  call_modest (remove p) f (both e _) = let z = path_short p e in (omega arith, tt)
  call_modest (rmdir p) f (both e _) = let z = path_short p e in (omega arith, tt)
  call_modest (chmod m p) f (both e _) = let z = path_short p e in (omega arith, tt)
  call_modest (readdir p) f (both e _) = let z = path_short p e in (omega arith, tt)
  call_modest (stat p) f (both e _) = let z = path_short p e in (omega arith, tt)
  call_modest (map_memory n) f a = (omega arith, tt)
  call_modest (unmap x) f a = (omega arith, tt)
  call_modest (rename p q) f (both e (both g _)) =
      let z = path_short p e in
      let y = path_short q g in
      pick_ind (Modest c) _ (λ _. no_bytes) (λ _. (rw (length-append (path_bytes p) (path_bytes q)) (omega arith), tt))

  reply_modest : (r : List ℕ) → Bytes r → ValidNodes c.width t.nodes → (p : Pending) → PendingFits t.nodes t.opens p
      → Passed (reply_checks c.width t r p)
      → Modest c (reply_action c.width t r p)
  unfolding reply_checks reply_action answer_length
  reply_modest r b v idle f a = tt
  reply_modest r b v (asked (creating p k m name)) f a = tt
  reply_modest r b v (asked (opening k rights)) f a = omega arith
  reply_modest r b v (asked (closing o)) f a = omega arith
  reply_modest r b v (asked (removing k)) f a = tt
  reply_modest r b v (asked (changing k m)) f a = omega arith
  reply_modest r b v (asked (listing k)) f a = listing_length c.width t r k v f (listing_right c.width t r k b a)
  reply_modest r b v (asked (stating k)) f (both l _) = let z : length r ≡ c.width + 6 = eqb-true _ _ (not-false _ l) in omega arith
  reply_modest r b v (asked (mapping n)) f a = tt
  reply_modest r b v (asked (unmapping x)) f a = tt
  reply_modest r b v (asked (renaming k p name)) f a = omega arith
  reply_modest r b v (reading k o p n i) f a = tt
  reply_modest r b v (fetching k o q i) f a = tt
  reply_modest r b v (storing k o q i) f a = tt
  reply_modest r b v (cutting k o q) f a = tt

module _ (c : Config) (sk : Skeleton) (v : Valid c.width sk) where
  read_modest : (s : List ℕ) → Bytes s → (o : Option Call) → read_call c.width s ≡ o → is_none o ≡ false → Passed (call_checks sk.tables (call_or o))
      → Modest c (call_action sk.tables c.width (call_or o))
  unfolding is_none call_or
  read_modest s b none e i p = absurd (true≢false i)
  read_modest s b (some q) e i p = call_modest c sk.tables q (call-was-written c.width s q b e).1 p

  full_modest : (p : Pending) → Modest c (full_action p)
  unfolding full_action
  full_modest idle = tt
  full_modest (asked x) = tt
  full_modest (reading k o p n i) = tt
  full_modest (fetching k o q i) = tt
  full_modest (storing k o q i) = pick_ind (Modest c) (ltb (first q) i) (λ _. tt) (λ _. tt)
  full_modest (cutting k o q) = tt

  action_modest : (e : Event) → EventBytes e → Passed (event_checks c sk e) → Modest c (event_action c sk e)
  unfolding event_checks event_action EventBytes
  action_modest (call s a q) b (both _ (both _ (both _ (both n p)))) = read_modest s b (read_call c.width s) refl n (all_left _ _ p)
  action_modest (reply r a q) b _ =
      pick_ind (Modest c) (tells_full c.width r sk.pending) (λ _. full_modest sk.pending)
      (λ _. decide_ind halt (Modest c) (reasons c.width sk r) _ (λ n f. tt)
      (λ p. reply_modest c sk.tables r b v.tables.nodes_valid sk.pending v.pending
      (unfold reasons in all_left (reply_checks c.width sk.tables r sk.pending) (map_reasons sk.maps r sk.pending) p)))
  action_modest (save n) b p = tt
  action_modest (load v i d) b p = tt

  pub judge_modest : (e : Event) → EventBytes e → Modest c (judge c sk e)
  unfolding judge
  judge_modest e b = decide_ind refuse (Modest c) (event_checks c sk e) (event_action c sk e) (λ n f. tt) (action_modest e b)

pub page_long : (q : Change) (i : ℕ) (r : List ℕ) → length (fill q i r) ≡ PAGE_BYTES
unfolding fill overlay
page_long (writing p d) i r = length-tab _ _
page_long (shrinking n) i r = length-tab _ _
page_long (growing n) i r = length-tab _ _

-- what a read has gathered, with one page more
pub gather_more : (b r : List ℕ) (p n i : ℕ) → length b ≡ max p (i * 1024) - p → page_at p ≤ i → i * 1024 < p + n
    → length (b ++ page_part r p n i) ≡ min (p + n) (i * 1024 + 1024) - p
unfolding page_part bytes_at page_at
gather_more b r p n i h l m = rw (length-append, length-tab) (omega arith)

-- what is to be read and written is what the call says: the smaller of count and what is left (SPECIFICATION 4.4), and all of a write's bytes
module _ (t : Tables) (w h : ℕ) where
  pub read-begins : (n : ℕ) → 0 < min n ((file t h).size - (opened t h).cursor)
      → call_action t w (read h n)
      ≡ send (reading (file_place t h) (open_place t h) (opened t h).cursor (min n ((file t h).size - (opened t h).cursor)) (page_at (opened t h).cursor)) (fetch_request (opened t h).descriptor (page_at (opened t h).cursor))
  unfolding call_action read_action
  read-begins n l = pick-false _ _ _ (ne_eqb (min n ((file t h).size - (opened t h).cursor)) 0 (λ e. omega arith))

  pub write-begins : (d : List ℕ) → 0 < length d → call_action t w (write h d) ≡ begin (file_place t h) (open_place t h) (writing (opened t h).cursor d)
  unfolding call_action
  write-begins d l = pick-false _ _ _ (ne_eqb (length d) 0 (λ e. omega arith))
