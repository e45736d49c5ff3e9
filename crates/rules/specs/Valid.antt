-- What holds of the tables and of the pending call, whatever the host replies: what SPECIFICATION 2 says of nodes and open files, and the facts
-- under which a pending call goes on. That every step keeps it is proved in crate machine, `ValidLaws`.
-- Assumes nothing.
use Rattle.std.specs.Prelude.{◌≡◌, ◌⊎◌, Bool, true, false, List, [], ◌∷◌, ◌++◌, map, ℕ, suc, ◌+◌, ◌*◌, ◌≤◌, ◌<◌, eqb, length}
use Rattle.std.proofs.Math.Option.{some}
use Rattle.lists.specs.All.{All, Bytes}
use Rattle.lists.specs.Search.{unique, without}
use Rattle.lists.specs.Checks.{First}
use Rattle.filesystem.specs.Tables.{NODES, OPEN_FILES, PAGES, PAGE_BYTES, FILE_BYTES, NAME_BYTES, PATH_BYTES, DESCRIPTORS, Node, OpenFile, Tables, is_file, is_directory, page_total, node_at, open_at, find_id, find_child, find_handle, children, set_size}
use Rattle.filesystem.specs.Paths.{component_form}
use Rattle.filesystem.specs.Image.{Image, Version, layout_of, sound_nodes, path_length, parse}
use Rattle.rules.specs.Pages.{page_at, Change, first, last, size_after, FitsSize, stores_more}
use Rattle.rules.specs.Requests.{is_fetch, asked, Pending, idle, creating, opening, closing, removing, changing, listing, stating, mapping, unmapping, reading, fetching, storing, cutting}
use Rattle.rules.specs.Requests.{renaming}
use Rattle.rules.specs.MapRules.{MapChange}
use Rattle.filesystem.specs.Renaming.{Movable}
use Rattle.rules.specs.Skeleton.{Config, Event, call, reply, save, load, Skeleton}
use Rattle.rules.specs.Rules.{Move, refuse, halt, send, finish, add, delete, remap, read_page, begin, fill_page, stored, cut_done, keep_pages, give_up, saving, loading, tells_full, event_checks, gives_up, reasons}

-- an open file is a file of the tables; its cursor lies between 0 and the size, its descriptor in 0 to 1,023
pub record ValidOpen (ns : List Node) (o : OpenFile) : Type 0 where
  pub known : find_id ns o.handle < length ns
  pub is_file_lem : is_file (node_at ns (find_id ns o.handle)) ≡ true
  pub cursor_inside : o.cursor ≤ (node_at ns (find_id ns o.handle)).size
  pub low : o.descriptor < DESCRIPTORS

abbrev pub same_handle : OpenFile → OpenFile → Bool
same_handle a b = eqb a.handle b.handle

abbrev pub same_descriptor : OpenFile → OpenFile → Bool
same_descriptor a b = eqb a.descriptor b.descriptor

-- ids differ, siblings' names differ, and all else that a saved image asks: what is saved always loads again
pub record ValidNodes (w : ℕ) (ns : List Node) : Type 0 where
  pub sound : sound_nodes w ns ≡ true
  pub named : All (λ (n : Node). Bytes n.name) ns

pub record ValidTables (w : ℕ) (t : Tables) : Type 0 where
  pub nodes_valid : ValidNodes w t.nodes
  pub opened : All (ValidOpen t.nodes) t.opens
  -- a file is open at most once, and descriptors differ
  pub once : unique same_handle t.opens ≡ true
  pub apart : unique same_descriptor t.opens ≡ true
  pub few : length t.opens ≤ OPEN_FILES

module _ (ns : List Node) (os : List OpenFile) where
  -- a node is to be added under the directory in place `at`
  pub record CreatingFits (parent kind mode : ℕ) (name : List ℕ) : Type 0 where
    pub at : ℕ
    pub known : at < length ns
    pub directory : is_directory (node_at ns at) ≡ true
    pub is_parent : (node_at ns at).id ≡ parent
    pub new : length ns ≤ find_child ns parent name
    pub form : component_form name ≡ true
    pub short : length name ≤ NAME_BYTES
    pub bytes : Bytes name
    pub path_short : path_length ns (node_at ns at) + suc (length name) ≤ PATH_BYTES
    pub kinds : (kind ≡ 1) ⊎ (kind ≡ 2)
    pub modes : mode ≤ 7
    pub room : length ns < NODES

  pub record OpeningFits (k rights : ℕ) : Type 0 where
    pub known : k < length ns
    pub is_file_lem : is_file (node_at ns k) ≡ true
    pub closed : length os ≤ find_handle os (node_at ns k).id
    pub rights_fit : rights ≤ 3
    pub room : length os < OPEN_FILES

  -- neither the root nor a directory with children, nor open
  pub record RemovingFits (k : ℕ) : Type 0 where
    pub known : k < length ns
    pub not_root : 0 < k
    pub empty : children ns (node_at ns k).id ≡ []
    pub closed : length os ≤ find_handle os (node_at ns k).id

  pub record ChangingFits (k mode : ℕ) : Type 0 where
    pub known : k < length ns
    pub modes : mode ≤ 7

  -- the node in place k is to become `name` in the directory in place `at`
  pub record RenamingFits (k parent : ℕ) (name : List ℕ) : Type 0 where
    pub at : ℕ
    pub movable : Movable ns k at name
    pub is_parent : (node_at ns at).id ≡ parent
    pub bytes : Bytes name

  -- the open file in place o is the file in place k
  pub record Opened (k o : ℕ) : Type 0 where
    pub known : k < length ns
    pub open_known : o < length os
    pub same : find_id ns (open_at os o).handle ≡ k

  pub record ReadingFits (k o position n i : ℕ) : Type 0 where
    pub opened : Opened k o
    pub within : position + n ≤ (node_at ns k).size
    pub from : page_at position ≤ i
    pub to : i * PAGE_BYTES < position + n

  pub record ChangeFits (k o : ℕ) (q : Change) : Type 0 where
    pub opened : Opened k o
    pub fits : FitsSize q (node_at ns k).size
    pub most : size_after q (node_at ns k).size ≤ FILE_BYTES
    pub room : page_total (set_size ns k (size_after q (node_at ns k).size)) ≤ PAGES

  -- the page i is one that the change stores
  pub record PageFits (k o : ℕ) (q : Change) (i : ℕ) : Type 0 where
    pub change : ChangeFits k o q
    pub from : first q ≤ i
    pub to : i < last q

  -- and one that the file has
  pub record FetchFits (k o : ℕ) (q : Change) (i : ℕ) : Type 0 where
    pub page : PageFits k o q i
    pub old : i * PAGE_BYTES < (node_at ns k).size

  abbrev pub PendingFits : Pending → Type 0
  PendingFits idle = Unit {0}
  PendingFits (asked (creating p k m name)) = CreatingFits p k m name
  PendingFits (asked (opening k rights)) = OpeningFits k rights
  PendingFits (asked (closing o)) = o < length os
  PendingFits (asked (removing k)) = RemovingFits k
  PendingFits (asked (changing k m)) = ChangingFits k m
  PendingFits (asked (listing k)) = k < length ns
  PendingFits (asked (stating k)) = k < length ns
  PendingFits (asked (mapping n)) = Unit {0}
  PendingFits (asked (unmapping a)) = Unit {0}
  PendingFits (asked (renaming k p name)) = RenamingFits k p name
  PendingFits (reading k o p n i) = ReadingFits k o p n i
  PendingFits (fetching k o q i) = FetchFits k o q i
  PendingFits (storing k o q i) = PageFits k o q i
  PendingFits (cutting k o q) = ChangeFits k o q

pub record Valid (w : ℕ) (sk : Skeleton) : Type 0 where
  pub tables : ValidTables w sk.tables
  pub pending : PendingFits sk.tables.nodes sk.tables.opens sk.pending

-- a request that starts a call: nothing is gathered before it
abbrev pub Starts : Pending → Type 0
Starts idle = ⊥
Starts (asked x) = Unit {0}
Starts (reading k o p n i) = i ≡ page_at p
Starts (fetching k o q i) = ⊥
Starts (storing k o q i) = ⊥
Starts (cutting k o q) = ⊥

-- the request that starts a call is a fetch where a page is awaited, and no fetch where none is
abbrev pub Asks : Pending → List ℕ → Type 0
Asks idle s = ⊥
Asks (asked x) s = is_fetch s ≡ false
Asks (reading k o p n i) s = is_fetch s ≡ true
Asks (fetching k o q i) s = ⊥
Asks (storing k o q i) s = ⊥
Asks (cutting k o q) s = ⊥

abbrev pub sizes : List Node → List ℕ
sizes ns = map (λ n. n.size) ns

-- a call or a reply
abbrev pub Plain : Event → Type 0
Plain (call s a q) = Unit {0}
Plain (reply r a q) = Unit {0}
Plain (save n) = ⊥
Plain (load v i d) = ⊥

-- What holds of the move that the rules come to.
pub data Fits (c : Config) (sk : Skeleton) (e : Event) : Move → Type 0 where
  f_refuse : {n : ℕ} → First n (event_checks c sk e) → Fits c sk e (refuse n)
  f_halt : {n : ℕ} {r : List ℕ} {a q : ℕ} → e ≡ reply r a q → tells_full c.width r sk.pending ≡ false → First n (reasons c.width sk r)
      → Fits c sk e (halt n)
  f_send : {p : Pending} {q : List ℕ} → PendingFits sk.tables.nodes sk.tables.opens p → Starts p → Asks p q → Fits c sk e (send p q)
  f_finish : {t : Tables} {n : ℕ} {b : List ℕ} → Plain e → ValidTables c.width t → sizes t.nodes ≡ sizes sk.tables.nodes → Fits c sk e (finish t n b)
  f_add : {n : Node} → Plain e → n.size ≡ 0
      → ValidTables c.width (record { nodes = sk.tables.nodes ++ (n ∷ []); opens = sk.tables.opens }) → Fits c sk e (add n)
  f_delete : {k : ℕ} → Plain e → ValidTables c.width (record { nodes = without k sk.tables.nodes; opens = sk.tables.opens }) → Fits c sk e (delete k)
  -- that the maps stay valid is a law of its own (MapMoves)
  f_remap : {x : MapChange} → Plain e → Fits c sk e (remap x)
  f_read_page : {k o p n i : ℕ} {r : List ℕ} {a q : ℕ} → e ≡ reply r a q → sk.pending ≡ reading k o p n i → length r ≡ PAGE_BYTES
      → ReadingFits sk.tables.nodes sk.tables.opens k o p n i → Fits c sk e (read_page k o p n i r)
  f_begin : {k o : ℕ} {q : Change} → Plain e → ChangeFits sk.tables.nodes sk.tables.opens k o q → Fits c sk e (begin k o q)
  f_fill_page : {k o : ℕ} {q : Change} {i : ℕ} {r : List ℕ} {a b : ℕ} → e ≡ reply r a b → sk.pending ≡ fetching k o q i → length r ≡ PAGE_BYTES
      → FetchFits sk.tables.nodes sk.tables.opens k o q i → Fits c sk e (fill_page k o q i r)
  f_stored : {k o : ℕ} {q : Change} {i : ℕ} → Plain e → sk.pending ≡ storing k o q i → PageFits sk.tables.nodes sk.tables.opens k o q i
      → Fits c sk e (stored k o q i)
  f_cut_done : {k o : ℕ} {q : Change} → Plain e → sk.pending ≡ cutting k o q → ChangeFits sk.tables.nodes sk.tables.opens k o q
      → Fits c sk e (cut_done k o q)
  f_keep_pages : {k o : ℕ} {q : Change} {i : ℕ} → Plain e → sk.pending ≡ storing k o q i → PageFits sk.tables.nodes sk.tables.opens k o q i
      → stores_more q ≡ true → first q < i → Fits c sk e (keep_pages k o q i)
  f_give_up : {r : List ℕ} {a q : ℕ} → e ≡ reply r a q → gives_up c sk e ≡ true → Fits c sk e give_up
  f_saving : {n : ℕ} → e ≡ save n → sk.pending ≡ idle → sk.tables.opens ≡ [] → Fits c sk e saving
  f_loading : {i : Image} {v : Version} {image d : List ℕ} → e ≡ load v image d → sk.tables.opens ≡ []
      → c.digest image ≡ d → parse (layout_of c.width v) image ≡ some i → Fits c sk e (loading i d)
