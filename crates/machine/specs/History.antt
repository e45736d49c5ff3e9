-- The history of a list of events (SPECIFICATION 10.3): the pages in stores and in replies to fetches, a page that a growth adds, the images given out
-- or handed in.
-- Assumes nothing.
use Rattle.std.specs.Prelude.{◌≡◌, Bool, ℕ, eqb, length, drop}
use mathlib.Core.List.{List, [], ◌∷◌, ◌++◌, Memᴰ}
use Rattle.lists.specs.Pick.{pick}
use Rattle.filesystem.specs.Tables.{PAGE_BYTES, Node, node_at}
use Rattle.rules.specs.Pages.{added_by}
use Rattle.rules.specs.Requests.{asked, Pending, idle, reading, fetching, storing, cutting}
use Rattle.rules.specs.Skeleton.{Config, Event, call, reply, save, load, Answer, done, ask, refused, stopped, Outcome, Skeleton}
use Rattle.machine.specs.Machine.{Store, State, step}

-- is a page awaited?
unfoldable pub awaits_page : Pending → Bool
awaits_page idle = Bool.false
awaits_page (asked x) = Bool.false
awaits_page (reading k o p n i) = Bool.true
awaits_page (fetching k o q i) = Bool.true
awaits_page (storing k o q i) = Bool.false
awaits_page (cutting k o q) = Bool.false

-- a fetch's reply, if it is as long as a page
unfoldable pub page_in : Pending → Event → List (List ℕ)
page_in p (call s a q) = []
page_in p (reply r a q) = pick (awaits_page p) (pick (eqb (length r) PAGE_BYTES) (r ∷ []) []) []
page_in p (save n) = []
page_in p (load v i d) = []

-- the page in a request of kind 7, after descriptor, page and size
unfoldable pub stored_page : List ℕ → List (List ℕ)
stored_page [] = []
stored_page (kind ∷ s) = pick (eqb kind 7) (drop 12 s ∷ []) []

-- the page of zeros, with the cut that a growth asks: the call that is then pending tells a growth, the node its old size
unfoldable pub page_added : List Node → Pending → List (List ℕ)
page_added ns idle = []
page_added ns (asked x) = []
page_added ns (reading k o p n i) = []
page_added ns (fetching k o q i) = []
page_added ns (storing k o q i) = []
page_added ns (cutting k o q) = added_by q (node_at ns k).size

-- the pages that an answer sends or adds; sk is what is held after it
unfoldable pub page_out : Skeleton → Answer → List (List ℕ)
page_out sk (done n b) = []
page_out sk (ask q) = stored_page q ++ page_added sk.tables.nodes sk.pending
page_out sk (refused n) = []
page_out sk (stopped n) = []

unfoldable pub image_in : Event → List (List ℕ)
image_in (call s a q) = []
image_in (reply r a q) = []
image_in (save n) = []
image_in (load v i d) = i ∷ []

-- a save that is done gives its image
unfoldable pub image_given : Answer → List (List ℕ)
image_given (done n b) = b ∷ []
image_given (ask q) = []
image_given (refused n) = []
image_given (stopped n) = []

unfoldable pub image_out : Event → Outcome → List (List ℕ)
image_out (call s a q) o = []
image_out (reply r a q) o = []
image_out (save n) o = image_given o.answer
image_out (load v i d) o = []

module _ (c : Config) (S : Store) where
  unfoldable pub pages : State S → List Event → List (List ℕ)
  pages s [] = []
  pages s (e ∷ es) =
      (page_in s.skeleton.pending e ++ page_out (step c S s e).state.skeleton (step c S s e).outcome.answer)
      ++ pages (step c S s e).state es

  unfoldable pub images : State S → List Event → List (List ℕ)
  images s [] = []
  images s (e ∷ es) = (image_in e ++ image_out e (step c S s e).outcome) ++ images (step c S s e).state es

-- two different byte strings among these with one digest
unfoldable pub Collision : (List ℕ → List ℕ) → List (List ℕ) → Type 0
Collision digest history =
    (p : List ℕ) × (q : List ℕ) × Memᴰ p history × Memᴰ q history × (p ≡ q → ⊥) × (digest p ≡ digest q)
