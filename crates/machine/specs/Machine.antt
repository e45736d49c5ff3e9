-- One machine over what is kept of a file's pages: the guard keeps digests, the reference tree bytes. Tables change when the last reply is accepted
-- (SPECIFICATION 5.9).
-- Letters: S what is kept of pages, s the state, k a node's place, o an open file's place, p a position (in `asking` what is pending), n a count, i a
-- page, q a change (in `asking` a request), r a reply, a what was gathered, t tables, x contents.
-- Assumes nothing.
use Rattle.std.specs.Prelude.{Bool, List, [], ◌∷◌, ◌++◌, map, ℕ, suc, ◌+◌, ◌-◌, ◌*◌, ltb, leb, length, get_or, set, take}
use Rattle.lists.specs.Pick.{pick}
use Rattle.lists.specs.Equal.{equal}
use Rattle.lists.specs.Search.{without}
use Rattle.filesystem.specs.Tables.{PAGE_BYTES, Node, Tables, node_at, open_at, set_size, set_cursor}
use Rattle.filesystem.specs.Image.{Image, saved, flatten, divide, print}
use Rattle.filesystem.specs.Digests.{replaced}
use Rattle.rules.specs.Pages.{page_of, page_part, Change, first, last, fetches, fill, size_sent, cuts, size_after, cursor_after, number_of, before}
use Rattle.rules.specs.Requests.{fetch_request, store_request, cut_request, Pending, reading, fetching, storing, cutting}
use Rattle.rules.specs.Skeleton.{Config, Event, Answer, done, ask, refused, stopped, Outcome, plain, Skeleton, waiting, resting, halted, remapped, fresh_skeleton}
use Rattle.rules.specs.MapRules.{MapChange, maps_after, map_number}
use Rattle.rules.specs.Rules.{Move, refuse, halt, send, finish, add, delete, remap, read_page, begin, fill_page, stored, cut_done, keep_pages, give_up, saving, loading, judge}

-- nodes, and what is kept of each one's pages; a directory has none
pub record Files (X : Type 0) : Type 0 where
  pub nodes : List Node
  pub contents : List X

-- What is kept of pages, and how.
pub record Store : Type 1 where
  -- of a file; of a pending call; of saves
  pub Content : Type 0
  pub Progress : Type 0
  pub Saves : Type 0
  pub blank : Content
  pub nothing : Progress
  pub unsaved : Saves
  -- is this page i of the file?
  pub is_page : Content → (i : ℕ) → List ℕ → Bool
  -- a read of n bytes from a position on: page i came; the bytes at the end
  pub gather : Progress → (position n i : ℕ) → List ℕ → Progress
  pub gathered : Content → (position n : ℕ) → Progress → List ℕ
  -- a change: page i as it is stored, from the page that was fetched; it goes out; the file at the end
  pub page_for : Content → Change → (i : ℕ) → List ℕ → List ℕ
  pub sent : Progress → List ℕ → Progress
  -- of what was sent, the first n pages
  pub up_to : Progress → (n : ℕ) → Progress
  pub changed : Content → Change → (size : ℕ) → Progress → Content
  -- a file's digests, page by page
  pub digests : Content → List (List ℕ)
  -- a save is kept under its digest; the files that a load goes back to
  pub keep : Saves → (digest : List ℕ) → Files Content → Saves
  pub restore : Saves → Image → (digest : List ℕ) → Files Content → Files Content

pub record State (S : Store) : Type 0 where
  pub skeleton : Skeleton
  pub contents : List S.Content
  pub progress : S.Progress
  pub saves : S.Saves

pub record Result (S : Store) : Type 0 where
  pub outcome : Outcome
  pub state : State S

module _ (c : Config) (S : Store) where
  abbrev pub files : State S → Files S.Content
  files s = record { nodes = s.skeleton.tables.nodes; contents = s.contents }

  abbrev pub content_at : State S → ℕ → S.Content
  content_at s k = get_or s.contents k S.blank

  abbrev pub size_at : State S → ℕ → ℕ
  size_at s k = (node_at s.skeleton.tables.nodes k).size

  abbrev pub descriptor_at : State S → ℕ → ℕ
  descriptor_at s o = (open_at s.skeleton.tables.opens o).descriptor

  -- a request goes out, and the call waits for its reply
  abbrev pub asking : State S → List ℕ → Pending → S.Progress → Result S
  asking s q p a = record {
    outcome = plain (ask q);
    state = record { skeleton = waiting s.skeleton p; contents = s.contents; progress = a; saves = s.saves };
  }

  -- the call is done
  abbrev pub ending : State S → Answer → Tables → List S.Content → Result S
  ending s a t x = record {
    outcome = plain a;
    state = record { skeleton = resting s.skeleton t; contents = x; progress = S.nothing; saves = s.saves };
  }

  -- the disk is full: the call ends, the tables are those of before it
  abbrev pub gave_up : State S → Result S
  gave_up s = ending s (refused 28) s.skeleton.tables s.contents

  -- a stop is for good; the tables are those of before the call
  abbrev pub stopping : State S → ℕ → Result S
  stopping s n = record {
    outcome = plain (stopped n);
    state = record { skeleton = halted s.skeleton; contents = s.contents; progress = S.nothing; saves = s.saves };
  }

  -- a read is done, or the next page is fetched
  unfoldable pub read_on : State S → (k o position n i : ℕ) → S.Progress → Result S
  read_on s k o p n i a =
      pick (leb (p + n) (i * PAGE_BYTES + PAGE_BYTES))
      (ending s (done n (S.gathered (content_at s k) p n a))
      (record { nodes = s.skeleton.tables.nodes; opens = set_cursor s.skeleton.tables.opens o (p + n) }) s.contents)
      (asking s (fetch_request (descriptor_at s o) (suc i)) (reading k o p n (suc i)) a)

  -- a change is done
  unfoldable pub finish_change : State S → (k o : ℕ) → Change → Result S
  finish_change s k o q =
      ending s (done (number_of q) [])
      (record {
        nodes = set_size s.skeleton.tables.nodes k (size_after q (size_at s k));
        opens = set_cursor s.skeleton.tables.opens o (cursor_after q (open_at s.skeleton.tables.opens o).cursor);
      })
      (set s.contents k (S.changed (content_at s k) q (size_after q (size_at s k)) s.progress))

  -- its pages are stored: a cut follows, or it is done
  unfoldable pub pages_stored : State S → (k o : ℕ) → Change → Result S
  pages_stored s k o q =
      pick (cuts q)
      (asking s (cut_request (descriptor_at s o) (size_after q (size_at s k))) (cutting k o q) s.progress)
      (finish_change s k o q)

  unfoldable pub ask_store : State S → (k o : ℕ) → Change → (i : ℕ) → List ℕ → Result S
  ask_store s k o q i r =
      let p = S.page_for (content_at s k) q i r in
      asking s (store_request (descriptor_at s o) i (size_sent q (size_at s k) i) p) (storing k o q i) (S.sent s.progress p)

  unfoldable pub on_page : State S → (k o : ℕ) → Change → (i : ℕ) → Result S
  on_page s k o q i =
      pick (fetches q (size_at s k) i)
      (asking s (fetch_request (descriptor_at s o) i) (fetching k o q i) s.progress)
      (ask_store s k o q i [])

  -- the pages from i on
  unfoldable pub pages_from : State S → (k o : ℕ) → Change → (i : ℕ) → Result S
  pages_from s k o q i = pick (ltb i (last q)) (on_page s k o q i) (pages_stored s k o q)

  abbrev pub cleared : State S → State S
  cleared s = record { skeleton = s.skeleton; contents = s.contents; progress = S.nothing; saves = s.saves }

  -- of a change, the first n pages that it has sent
  abbrev pub trimmed : State S → ℕ → State S
  trimmed s n = record { skeleton = s.skeleton; contents = s.contents; progress = S.up_to s.progress n; saves = s.saves }

  abbrev pub image_of : State S → List ℕ
  image_of s = print (saved c.width) (s.skeleton.tables.nodes, flatten (map S.digests s.contents))

  abbrev pub saved_as : State S → List ℕ → Result S
  saved_as s image = record {
    outcome = record { answer = done (length image) image; digest = c.digest image };
    state = record { skeleton = resting s.skeleton s.skeleton.tables; contents = s.contents; progress = S.nothing; saves = S.keep s.saves (c.digest image) (files s) };
  }

  abbrev pub loaded : State S → Files S.Content → Result S
  loaded s f = ending s (done 0 []) (record { nodes = f.nodes; opens = s.skeleton.tables.opens }) f.contents

  -- a map began or ended
  abbrev pub map_ending : State S → MapChange → Result S
  map_ending s x = record {
    outcome = plain (done (map_number x) []);
    state = record { skeleton = remapped s.skeleton (maps_after x s.skeleton.maps); contents = s.contents; progress = S.nothing; saves = s.saves };
  }

  unfoldable pub apply : State S → Move → Result S
  apply s (refuse n) = record { outcome = plain (refused n); state = s }
  apply s (halt n) = stopping s n
  apply s (send p q) = asking s q p S.nothing
  apply s (finish t n b) = ending s (done n b) t s.contents
  apply s (add n) =
      ending s (done n.id []) (record { nodes = s.skeleton.tables.nodes ++ (n ∷ []); opens = s.skeleton.tables.opens }) (s.contents ++ (S.blank ∷ []))
  apply s (delete k) =
      ending s (done 0 []) (record { nodes = without k s.skeleton.tables.nodes; opens = s.skeleton.tables.opens }) (without k s.contents)
  apply s (remap x) = map_ending s x
  apply s (read_page k o p n i r) = pick (S.is_page (content_at s k) i r) (read_on s k o p n i (S.gather s.progress p n i r)) (stopping s 5)
  apply s (begin k o q) = pages_from (cleared s) k o q (first q)
  apply s (fill_page k o q i r) = pick (S.is_page (content_at s k) i r) (ask_store s k o q i r) (stopping s 5)
  apply s (stored k o q i) = pages_from s k o q (suc i)
  apply s (cut_done k o q) = finish_change s k o q
  apply s (keep_pages k o q i) = finish_change (trimmed s (i - first q)) k o (before q i)
  apply s give_up = gave_up s
  apply s saving = saved_as s (image_of s)
  apply s (loading i d) = loaded s (S.restore s.saves i d (files s))

  unfoldable pub step : State S → Event → Result S
  step s e = apply s (judge c s.skeleton e)

  abbrev pub fresh : State S
  fresh = record { skeleton = fresh_skeleton; contents = S.blank ∷ []; progress = S.nothing; saves = S.unsaved }

  -- a run over a list of events: what each comes to, and what is left
  unfoldable pub outcomes : State S → List Event → List Outcome
  outcomes s [] = []
  outcomes s (e ∷ es) = (step s e).outcome ∷ outcomes (step s e).state es

  unfoldable pub final : State S → List Event → State S
  final s [] = s
  final s (e ∷ es) = final (step s e).state es

-- The guard.

-- of a pending call: the bytes that a read has gathered, the digests of the pages that a change has sent
pub record Gathered : Type 0 where
  pub bytes : List ℕ
  pub digests : List (List ℕ)

module _ (c : Config) where
  -- a page of zeros
  unfoldable pub zero_digest : List ℕ
  zero_digest = c.digest (page_of [] 0)

  abbrev pub guard : Store
  guard = record {
    Content = List (List ℕ);
    Progress = Gathered;
    Saves = Unit {0};
    blank = [];
    nothing = record { bytes = []; digests = [] };
    unsaved = tt;
    is_page = λ x i r. equal (c.digest r) (get_or x i []);
    gather = λ a p n i r. record { bytes = a.bytes ++ page_part r p n i; digests = a.digests };
    gathered = λ x p n a. a.bytes;
    page_for = λ x q i r. fill q i r;
    sent = λ a p. record { bytes = a.bytes; digests = a.digests ++ (c.digest p ∷ []) };
    up_to = λ a n. record { bytes = a.bytes; digests = take n a.digests };
    changed = λ x q size a. replaced zero_digest x size (first q) a.digests;
    digests = λ x. x;
    keep = λ e d f. tt;
    restore = λ e i d f. record { nodes = i.0; contents = divide i.0 i.1 };
  }
