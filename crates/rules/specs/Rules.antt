-- The rules: for each event the numbers in their order (SPECIFICATION 7.4 to 7.8, 8.2, 8.3), and what is to be done where none of them holds.
-- Nothing here knows what is kept of a page.
-- Letters: t tables, p a path (in pages: a position), h a handle, k a node's place, o an open file's place, m a mode, r rights or a reply, n a number or
-- a count, d bytes of a write, w the width of ids, v an image's version, c the configuration, sk what is held beside
-- pages.
-- Assumes nothing.
use Rattle.std.specs.Prelude.{Bool, true, false, ◌&&◌, ◌||◌, not, List, [], ◌∷◌, ◌++◌, map, ℕ, ◌+◌, ◌-◌, ◌/◌, ◌%◌, min, max, eqb, ltb, leb, length, ℤ, pos, negsuc}
use Rattle.std.proofs.Math.Option.{Option, some, none}
use Rattle.lists.specs.Pick.{pick}
use Rattle.lists.specs.Equal.{equal}
use Rattle.lists.specs.Search.{without}
use Rattle.lists.specs.Rearranged.{is_rearranged}
use Rattle.lists.specs.LittleEndian.{encode, decode}
use Rattle.lists.specs.Signed.{signed}
use Rattle.lists.specs.Form.{Form, whole}
use Rattle.lists.specs.Formats.{num, then, text, times}
use Rattle.lists.specs.Checks.{Check, decide}
use Rattle.filesystem.specs.Tables.{NODES, OPEN_FILES, PAGES, PAGE_BYTES, FILE_BYTES, DESCRIPTORS, Node, OpenFile, Tables, is_directory, has_bit, page_total, node_at, open_at, absent, present, find_id, find_handle, find_descriptor, children, new_node, new_open_file, set_mode, set_size, set_cursor}
use Rattle.filesystem.specs.Tables.{renamed}
use Rattle.filesystem.specs.Rights.{covers}
use Rattle.filesystem.specs.Paths.{Path, too_long, walk, walk_checks, parent_checks, parent_of, last_of}
use Rattle.filesystem.specs.Image.{Image, saved, layout_of, image_length, parse, beneath, too_deep}
use Rattle.filesystem.specs.MemoryMaps.{Map, MAPS}
use Rattle.rules.specs.MapRules.{MapChange, begins, ends, map_in, find_map, map_faults}
use Rattle.rules.specs.Calls.{Call, create, mkdir, open_as, close, seek, read, write, truncate, remove, rmdir, chmod, readdir, stat, call_bytes, read_call, map_memory, unmap}
use Rattle.rules.specs.Calls.{rename}
use Rattle.rules.specs.Pages.{page_at, Change, writing, truncating, first, stores_more, cuts_more}
use Rattle.rules.specs.Requests.{asked, close_request, fetch_request, Pending, idle, creating, opening, closing, removing, changing, listing, stating, reading, fetching, storing, cutting, mapping, unmapping}
use Rattle.rules.specs.Requests.{renaming}
use Rattle.rules.specs.Skeleton.{Config, Event, call, reply, save, load, answer_length, request_length, Skeleton}

-- What an event leads to.
pub data Move : Type 0 where
  refuse halt : ℕ → Move
  -- a request that no page goes with; done with the tables changed and no page touched; a node more; a node less
  send : Pending → List ℕ → Move
  finish : Tables → (number : ℕ) → (bytes : List ℕ) → Move
  add : Node → Move
  delete : ℕ → Move
  -- a map begins or ends
  remap : MapChange → Move
  -- a page came for a read
  read_page : (k o position n i : ℕ) → List ℕ → Move
  -- a change of a file's bytes begins; a page came for it; a page is stored; the file is cut
  begin : (k o : ℕ) → Change → Move
  fill_page : (k o : ℕ) → Change → (i : ℕ) → List ℕ → Move
  stored : (k o : ℕ) → Change → (i : ℕ) → Move
  cut_done : (k o : ℕ) → Change → Move
  -- the disk is full: a write keeps the pages before i, which are stored; the call is refused 28
  keep_pages : (k o : ℕ) → Change → (i : ℕ) → Move
  give_up : Move
  saving : Move
  loading : Image → (digest : List ℕ) → Move

-- Calls: each one's numbers.
module _ (t : Tables) where
  -- by path: the node, and the directory that holds it
  abbrev pub target : Path → Node
  target p = node_at t.nodes (walk t.nodes 0 p)

  abbrev pub holder : Path → Node
  holder p = node_at t.nodes (parent_of t.nodes 0 p)

  abbrev pub is_open : Node → Bool
  is_open n = present t.opens (find_handle t.opens n.id)

  -- by handle: the open file's place and what stands there, the file's place and what stands there
  abbrev pub open_place : ℕ → ℕ
  open_place h = find_handle t.opens h

  abbrev pub file_place : ℕ → ℕ
  file_place h = find_id t.nodes h

  abbrev pub opened : ℕ → OpenFile
  opened h = open_at t.opens (open_place h)

  abbrev pub file : ℕ → Node
  file h = node_at t.nodes (file_place h)

  -- by handle: no such open file, or one without the right (SPECIFICATION 4.9)
  abbrev pub handle_check : ℕ → Check
  handle_check h = (9, absent t.opens (open_place h))

  abbrev pub right_check : (right : ℕ) → ℕ → Check
  right_check right h = (9, absent t.opens (open_place h) || not (eqb ((opened h).rights / right % 2) 1))

  -- the end of a write at the cursor
  abbrev pub write_end : ℕ → List ℕ → ℕ
  write_end h d = (opened h).cursor + length d

  -- would the pages be too many if the node in place k had this size?
  unfoldable pub no_room : (k size : ℕ) → Bool
  no_room k size = ltb PAGES (page_total (set_size t.nodes k size))

  abbrev pub long_check : Path → Check
  long_check p = (36, too_long p)

  -- 36 and the walk (SPECIFICATION 7.4, 7.6); the last component may be missing
  abbrev pub reach : Path → List Check
  reach p = long_check p ∷ walk_checks t.nodes 0 p

  abbrev pub reach_parent : Path → List Check
  reach_parent p = long_check p ∷ parent_checks t.nodes 0 p

  -- the numbers of each call by path: SPECIFICATION 7.7
  abbrev pub new_checks : Path → List Check
  new_checks p =
      reach_parent p
      ++ ((17, present t.nodes (walk t.nodes 0 p)) ∷ (13, not (has_bit 2 (holder p))) ∷ (28, leb NODES (length t.nodes)) ∷ [])

  -- the first path leads where the second does: nothing else is asked then
  abbrev pub same_path : Path → Path → Bool
  same_path p q = eqb (walk t.nodes 0 q) (walk t.nodes 0 p)

  abbrev pub unless_same : Path → Path → Bool → Bool
  unless_same p q b = not (same_path p q) && b

  -- of a renaming, after both walks
  abbrev pub rename_checks : Path → Path → List Check
  rename_checks p q =
      (16, eqb (walk t.nodes 0 p) 0) ∷ (17, unless_same p q (present t.nodes (walk t.nodes 0 q)))
      ∷ (22, unless_same p q (beneath t.nodes (walk t.nodes 0 p) (parent_of t.nodes 0 q)))
      ∷ (13, unless_same p q (not (has_bit 2 (holder p)) || not (has_bit 2 (holder q))))
      ∷ (36, unless_same p q (too_deep t.nodes (walk t.nodes 0 p) (parent_of t.nodes 0 q) (last_of q))) ∷ []

  unfoldable pub call_checks : Call → List Check
  call_checks (create m p) = new_checks p
  call_checks (mkdir m p) = new_checks p
  call_checks (open_as r p) =
      reach p
      ++ ((21, is_directory (target p)) ∷ (13, not (covers (target p).mode r)) ∷ (16, is_open (target p)) ∷ (24, leb OPEN_FILES (length t.opens)) ∷ [])
  -- by handle: SPECIFICATION 7.8
  call_checks (close h) = handle_check h ∷ []
  call_checks (seek h n) = handle_check h ∷ (22, ltb (file h).size n) ∷ []
  call_checks (read h n) = right_check 1 h ∷ []
  call_checks (write h d) =
      right_check 2 h ∷ (27, ltb FILE_BYTES (write_end h d)) ∷ (28, no_room (file_place h) (max (file h).size (write_end h d))) ∷ []
  call_checks (truncate h n) = right_check 2 h ∷ (27, ltb FILE_BYTES n) ∷ (28, no_room (file_place h) n) ∷ []
  call_checks (remove p) = reach p ++ ((21, is_directory (target p)) ∷ (13, not (has_bit 2 (holder p))) ∷ (16, is_open (target p)) ∷ [])
  -- 16 is the root's alone; 13 asks the parent, here and above
  call_checks (rmdir p) =
      reach p
      ++ ((16, eqb (walk t.nodes 0 p) 0) ∷ (20, not (is_directory (target p))) ∷ (13, not (has_bit 2 (holder p)))
      ∷ (39, ltb 0 (length (children t.nodes (target p).id))) ∷ [])
  call_checks (chmod m p) = reach p
  call_checks (readdir p) = reach p ++ ((20, not (is_directory (target p))) ∷ (13, not (has_bit 4 (target p))) ∷ [])
  call_checks (stat p) = reach p
  -- no table of the files is read: `map_checks`
  call_checks (map_memory n) = []
  call_checks (unmap a) = []
  call_checks (rename p q) =
      long_check p ∷ long_check q ∷ (walk_checks t.nodes 0 p ++ (parent_checks t.nodes 0 q ++ rename_checks p q))

  -- and what it does where none of them holds (SPECIFICATION 5.2); w is the width of ids
  module _ (w : ℕ) where
    -- a read of no bytes sends nothing (SPECIFICATION 5.2)
    unfoldable pub read_action : (h n : ℕ) → Move
    read_action h n =
        pick (eqb n 0) (finish t 0 [])
        (send (reading (file_place h) (open_place h) (opened h).cursor n (page_at (opened h).cursor))
        (fetch_request (opened h).descriptor (page_at (opened h).cursor)))

    unfoldable pub call_action : Call → Move
    call_action (create m p) = send (asked (creating (holder p).id 1 m (last_of p))) (call_bytes w (create m p))
    call_action (mkdir m p) = send (asked (creating (holder p).id 2 m (last_of p))) (call_bytes w (mkdir m p))
    call_action (open_as r p) = send (asked (opening (walk t.nodes 0 p) r)) (call_bytes w (open_as r p))
    call_action (close h) = send (asked (closing (open_place h))) (close_request (opened h).descriptor)
    call_action (seek h n) = finish (record { nodes = t.nodes; opens = set_cursor t.opens (open_place h) n }) n []
    call_action (read h n) = read_action h (min n ((file h).size - (opened h).cursor))
    call_action (write h d) = pick (eqb (length d) 0) (finish t 0 []) (begin (file_place h) (open_place h) (writing (opened h).cursor d))
    call_action (truncate h n) = pick (eqb n (file h).size) (finish t 0 []) (begin (file_place h) (open_place h) (truncating (file h).size n))
    call_action (remove p) = send (asked (removing (walk t.nodes 0 p))) (call_bytes w (remove p))
    call_action (rmdir p) = send (asked (removing (walk t.nodes 0 p))) (call_bytes w (rmdir p))
    call_action (chmod m p) = send (asked (changing (walk t.nodes 0 p) m)) (call_bytes w (chmod m p))
    call_action (readdir p) = send (asked (listing (walk t.nodes 0 p))) (call_bytes w (readdir p))
    call_action (stat p) = send (asked (stating (walk t.nodes 0 p))) (call_bytes w (stat p))
    call_action (map_memory n) = send (asked (mapping n)) (call_bytes w (map_memory n))
    call_action (unmap a) = send (asked (unmapping a)) (call_bytes w (unmap a))
    call_action (rename p q) =
        pick (same_path p q) (finish t 0 [])
        (send (asked (renaming (walk t.nodes 0 p) (holder q).id (last_of q))) (call_bytes w (rename p q)))

-- Maps: a list of their own, behind the others (SPECIFICATION 7.8)
unfoldable pub map_checks : List Map → Call → List Check
map_checks ms (create m p) = []
map_checks ms (mkdir m p) = []
map_checks ms (open_as r p) = []
map_checks ms (close h) = []
map_checks ms (seek h n) = []
map_checks ms (read h n) = []
map_checks ms (write h d) = []
map_checks ms (truncate h n) = []
map_checks ms (remove p) = []
map_checks ms (rmdir p) = []
map_checks ms (chmod m p) = []
map_checks ms (readdir p) = []
map_checks ms (stat p) = []
map_checks ms (map_memory n) = (12, leb MAPS (length ms)) ∷ []
map_checks ms (unmap a) = (22, absent ms (find_map ms a)) ∷ []
map_checks ms (rename p q) = []

-- Replies.

-- a number of 4 bytes in two's complement (SPECIFICATION 5.4)
abbrev pub signed_of : List ℕ → ℤ
signed_of r = signed 4 (decode r)

unfoldable pub is_number : ℕ → ℤ → Bool
is_number n (pos m) = eqb m n
is_number n (negsuc m) = false

-- -28: no room on the disk
unfoldable pub is_full : ℤ → Bool
is_full (pos m) = false
is_full (negsuc m) = eqb m 27

-- said as a status of w bytes
unfoldable pub says_full : ℕ → List ℕ → Bool
says_full w r = eqb (length r) w && is_full (signed w (decode r))

-- a descriptor is 0 to 1,023
unfoldable pub is_descriptor : ℤ → Bool
is_descriptor (pos m) = ltb m DESCRIPTORS
is_descriptor (negsuc m) = false

-- a listing's entry (SPECIFICATION 5.5): id, kind (1), length of the name (1), name
abbrev pub Entry : Type 0
Entry = ℕ × (ℕ × List ℕ)

unfoldable pub entry_form : ℕ → Form Entry
entry_form w = then (num w) λ _. then (num 1) λ _. text 1

abbrev pub entry_of : Node → Entry
entry_of n = (n.id, (n.kind, n.name))

unfoldable pub same_entry : Entry → Entry → Bool
same_entry a b = eqb a.0 b.0 && (eqb a.1.0 b.1.0 && equal a.1.1 b.1.1)

-- one entry for each child, in any order, and nothing besides (SPECIFICATION 5.11)
unfoldable pub is_listing : ℕ → List Node → List ℕ → Bool
is_listing w ns r = elim (whole (times (entry_form w) (length ns)) r) [ none ↦ false | some es ↦ is_rearranged same_entry es (map entry_of ns) ]

-- a stat: id, kind (1), mode (1), size (4)
unfoldable pub stat_bytes : ℕ → Node → List ℕ
stat_bytes w n = encode w n.id ++ (n.kind ∷ n.mode ∷ encode 4 n.size)

module _ (w : ℕ) (t : Tables) (r : List ℕ) where
  abbrev pub length_check : ℕ → Check
  length_check n = (1, not (eqb (length r) n))

  abbrev pub status_checks : ℕ → List Check
  status_checks n = length_check 4 ∷ (2, not (is_number n (signed_of r))) ∷ []

  -- the stop reasons of a reply, in their order (SPECIFICATION 5.10); a page's digest (5) is looked at by the machine
  unfoldable pub reply_checks : Pending → List Check
  reply_checks idle = []
  reply_checks (asked (creating p k m name)) = length_check w ∷ (3, eqb (decode r) 0 || present t.nodes (find_id t.nodes (decode r))) ∷ []
  reply_checks (asked (opening k rights)) =
      length_check 4 ∷ (4, not (is_descriptor (signed_of r)) || present t.opens (find_descriptor t.opens (decode r))) ∷ []
  reply_checks (asked (closing o)) = status_checks 0
  reply_checks (asked (removing k)) = status_checks 0
  reply_checks (asked (changing k m)) = status_checks 0
  reply_checks (asked (listing k)) = (7, not (is_listing w (children t.nodes (node_at t.nodes k).id) r)) ∷ []
  reply_checks (asked (stating k)) = length_check (w + 6) ∷ (6, not (equal r (stat_bytes w (node_at t.nodes k)))) ∷ []
  reply_checks (asked (mapping n)) = length_check (8 + n) ∷ []
  reply_checks (asked (unmapping a)) = status_checks 0
  reply_checks (asked (renaming k p name)) = status_checks 0
  reply_checks (reading k o p n i) = length_check PAGE_BYTES ∷ []
  reply_checks (fetching k o q i) = length_check PAGE_BYTES ∷ []
  reply_checks (storing k o q i) = status_checks PAGE_BYTES
  reply_checks (cutting k o q) = status_checks 0

  -- and what is done with one that none of them stops (SPECIFICATION 6.1, 9.6)
  unfoldable pub reply_action : Pending → Move
  reply_action idle = refuse 61
  reply_action (asked (creating p k m name)) = add (new_node (decode r) p k m name)
  reply_action (asked (opening k rights)) =
      finish (record { nodes = t.nodes; opens = t.opens ++ (new_open_file (node_at t.nodes k).id (decode r) rights ∷ []) }) (node_at t.nodes k).id []
  reply_action (asked (closing o)) = finish (record { nodes = t.nodes; opens = without o t.opens }) 0 []
  reply_action (asked (removing k)) = delete k
  reply_action (asked (changing k m)) = finish (record { nodes = set_mode t.nodes k m; opens = t.opens }) 0 []
  reply_action (asked (listing k)) = finish t (length (children t.nodes (node_at t.nodes k).id)) r
  reply_action (asked (stating k)) = finish t (node_at t.nodes k).size r
  reply_action (asked (mapping n)) = remap (begins (map_in n r))
  reply_action (asked (unmapping a)) = remap (ends a)
  reply_action (asked (renaming k p name)) = finish
      (record { nodes = renamed t.nodes k p name; opens = t.opens }) 0 []
  reply_action (reading k o p n i) = read_page k o p n i r
  reply_action (fetching k o q i) = fill_page k o q i r
  reply_action (storing k o q i) = stored k o q i
  reply_action (cutting k o q) = cut_done k o q

-- the reasons of a reply that names a map, behind its length
unfoldable pub map_reasons : List Map → List ℕ → Pending → List Check
map_reasons ms r idle = []
map_reasons ms r (asked (creating p k m name)) = []
map_reasons ms r (asked (opening k rights)) = []
map_reasons ms r (asked (closing o)) = []
map_reasons ms r (asked (removing k)) = []
map_reasons ms r (asked (changing k m)) = []
map_reasons ms r (asked (listing k)) = []
map_reasons ms r (asked (stating k)) = []
map_reasons ms r (asked (mapping n)) = map_faults ms n r
map_reasons ms r (asked (unmapping a)) = []
map_reasons ms r (asked (renaming k p name)) = []
map_reasons ms r (reading k o p n i) = []
map_reasons ms r (fetching k o q i) = []
map_reasons ms r (storing k o q i) = []
map_reasons ms r (cutting k o q) = []

-- every reason to stop at a reply, in their order (SPECIFICATION 5.10); a page's digest (5) apart
unfoldable pub reasons : ℕ → Skeleton → List ℕ → List Check
reasons w sk r = reply_checks w sk.tables r sk.pending ++ map_reasons sk.maps r sk.pending

-- A reply that says the disk is full, where it may: to a create or mkdir at the width of ids, to a write's store, to a growing cut.
abbrev pub tells_full : (w : ℕ) → List ℕ → Pending → Bool
tells_full w r idle = false
tells_full w r (asked (creating p k m name)) = says_full w r
tells_full w r (asked (opening k rights)) = false
tells_full w r (asked (closing o)) = false
tells_full w r (asked (removing k)) = false
tells_full w r (asked (changing k m)) = false
tells_full w r (asked (listing k)) = false
tells_full w r (asked (stating k)) = false
tells_full w r (asked (mapping n)) = false
tells_full w r (asked (unmapping a)) = false
tells_full w r (asked (renaming k p name)) = false
tells_full w r (reading k o p n i) = false
tells_full w r (fetching k o q i) = false
tells_full w r (storing k o q i) = stores_more q && says_full 4 r
tells_full w r (cutting k o q) = cuts_more q && says_full 4 r

-- has the pending call finished a page?
abbrev pub finished : Pending → Bool
finished idle = false
finished (asked x) = false
finished (reading k o p n i) = false
finished (fetching k o q i) = false
finished (storing k o q i) = ltb (first q) i
finished (cutting k o q) = false

-- then the pages before the one that met it are kept; else the call is given up
unfoldable pub full_action : Pending → Move
full_action idle = give_up
full_action (asked x) = give_up
full_action (reading k o p n i) = give_up
full_action (fetching k o q i) = give_up
full_action (storing k o q i) = pick (finished (storing k o q i)) (keep_pages k o q i) give_up
full_action (cutting k o q) = give_up

-- Every event: the one list of its numbers, and what it leads to.
unfoldable pub is_idle : Pending → Bool
is_idle idle = true
is_idle (asked x) = false
is_idle (reading k o p n i) = false
is_idle (fetching k o q i) = false
is_idle (storing k o q i) = false
is_idle (cutting k o q) = false

-- bytes that are no call lead nowhere: they are refused before this is asked
unfoldable pub call_or : Option Call → Call
call_or none = close 0
call_or (some c) = c

unfoldable pub image_or : Option Image → Image
image_or none = ([], [])
image_or (some i) = i

unfoldable pub is_none : {A : Type 0} → Option A → Bool
is_none none = true
is_none (some a) = false

module _ (c : Config) (sk : Skeleton) where
  abbrev pub stopped_check : Check
  stopped_check = (5, sk.stopped)

  abbrev pub busy_check : Check
  busy_check = (114, not (is_idle sk.pending))

  abbrev pub short_check : (answer request : ℕ) → Check
  short_check answer request = (34, ltb answer (answer_length c) || ltb request (request_length c))

  abbrev pub in_use_check : Check
  in_use_check = (16, ltb 0 (length sk.tables.opens))

  unfoldable pub event_checks : Event → List Check
  event_checks (call s answer request) =
      stopped_check ∷ busy_check ∷ short_check answer request ∷ (22, is_none (read_call c.width s))
      ∷ (call_checks sk.tables (call_or (read_call c.width s)) ++ map_checks sk.maps (call_or (read_call c.width s)))
  event_checks (reply r answer request) = stopped_check ∷ (61, is_idle sk.pending) ∷ short_check answer request ∷ []
  event_checks (save buffer) =
      stopped_check ∷ busy_check ∷ in_use_check ∷ (34, ltb buffer (image_length (saved c.width) sk.tables.nodes)) ∷ []
  event_checks (load v image digest) =
      stopped_check ∷ busy_check ∷ in_use_check ∷ (74, not (equal (c.digest image) digest))
      ∷ (84, is_none (parse (layout_of c.width v) image)) ∷ []

  unfoldable pub event_action : Event → Move
  event_action (call s answer request) = call_action sk.tables c.width (call_or (read_call c.width s))
  event_action (reply r answer request) =
      pick (tells_full c.width r sk.pending) (full_action sk.pending)
      (decide halt (reasons c.width sk r) (reply_action c.width sk.tables r sk.pending))
  event_action (save buffer) = saving
  event_action (load v image digest) = loading (image_or (parse (layout_of c.width v) image)) digest

  unfoldable pub judge : Event → Move
  judge e = decide refuse (event_checks e) (event_action e)

  -- a reply ends its call with a refusal: the disk is full, and no page is finished
  unfoldable pub gives_up : Event → Bool
  gives_up (call s answer request) = false
  gives_up (reply r answer request) = tells_full c.width r sk.pending && not (finished sk.pending)
  gives_up (save buffer) = false
  gives_up (load v image digest) = false
