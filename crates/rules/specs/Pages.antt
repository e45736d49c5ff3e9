-- A file's bytes by pages of 1,024, zero past the end (SPECIFICATION 2.4), and the calls that change them (4.3 to 4.6, 5.6 to 5.8), as data.
-- Assumes nothing.
use Rattle.std.specs.Prelude.{Bool, true, false, ◌&&◌, ◌||◌, List, [], ◌∷◌, ℕ, ◌+◌, ◌-◌, ◌*◌, ◌/◌, ◌≤◌, ◌<◌, min, max, ltb, length, get_or, take}
use Rattle.lists.specs.Pick.{pick}
use Rattle.lists.specs.Cells.{inside, tab}
use Rattle.filesystem.specs.Tables.{PAGE_BYTES, pages_for}

-- the page that a position lies in
unfoldable pub page_at : ℕ → ℕ
page_at position = position / PAGE_BYTES

-- page i of a file's bytes
unfoldable pub page_of : List ℕ → ℕ → List ℕ
page_of b i = tab PAGE_BYTES (λ j. get_or b (i * PAGE_BYTES + j) 0)

-- n bytes from a position on
unfoldable pub bytes_at : List ℕ → (position n : ℕ) → List ℕ
bytes_at b position n = tab n (λ j. get_or b (position + j) 0)

-- the bytes as n of them: cut, or with zeros behind
unfoldable pub resized : List ℕ → ℕ → List ℕ
resized b n = tab n (λ j. get_or b j 0)

-- the bytes d put over b from a position on
unfoldable pub splice : List ℕ → (position : ℕ) → List ℕ → List ℕ
splice b position d =
    tab (max (length b) (position + length d)) (λ j. pick (inside position (length d) j) (get_or d (j - position) 0) (get_or b j 0))

-- the same on page i alone
unfoldable pub overlay : (page : List ℕ) (position : ℕ) (d : List ℕ) (i : ℕ) → List ℕ
overlay page position d i =
    tab PAGE_BYTES (λ j. pick (inside position (length d) (i * PAGE_BYTES + j)) (get_or d (i * PAGE_BYTES + j - position) 0) (get_or page j 0))

-- of a page i that came, the bytes that lie in n bytes from a position on
unfoldable pub page_part : (page : List ℕ) (position n i : ℕ) → List ℕ
page_part page position n i =
    bytes_at page (max position (i * PAGE_BYTES) - i * PAGE_BYTES) (min (position + n) (i * PAGE_BYTES + PAGE_BYTES) - max position (i * PAGE_BYTES))

-- A call that changes a file's bytes: a write at the cursor, a truncation to fewer bytes, or one to more.
pub data Change : Type 0 where
  writing : (position : ℕ) (bytes : List ℕ) → Change
  shrinking : (size : ℕ) → Change
  growing : (size : ℕ) → Change

-- a truncation of a file of this size to n bytes
unfoldable pub truncating : (size n : ℕ) → Change
truncating size n = pick (ltb n size) (shrinking n) (growing n)

-- it stores the pages from `first` to below `last`; a growth stores none
unfoldable pub first : Change → ℕ
first (writing p d) = page_at p
first (shrinking n) = page_at n
first (growing n) = 0

unfoldable pub last : Change → ℕ
last (writing p d) = pages_for (p + length d)
last (shrinking n) = pages_for n
last (growing n) = 0

-- a write fetches a page of which a byte before the old end is not replaced (SPECIFICATION 5.6); a truncation the page that it ends in (5.2)
unfoldable pub fetches : Change → (size i : ℕ) → Bool
fetches (writing p d) size i = ltb (i * PAGE_BYTES) size && (ltb (i * PAGE_BYTES) p || ltb (p + length d) (min size (i * PAGE_BYTES + PAGE_BYTES)))
fetches (shrinking n) size i = true
fetches (growing n) size i = true

-- page i as it is stored, from the page that was fetched (SPECIFICATION 5.7, 5.8)
unfoldable pub fill : Change → ℕ → List ℕ → List ℕ
fill (writing p d) i page = overlay page p d i
fill (shrinking n) i page = tab PAGE_BYTES (λ j. pick (ltb (i * PAGE_BYTES + j) n) (get_or page j 0) 0)
fill (growing n) i page = tab PAGE_BYTES (λ j. pick (ltb (i * PAGE_BYTES + j) n) (get_or page j 0) 0)

-- the size sent with page i: the old one, or the end of what is written with this page where that is larger (SPECIFICATION 5.7); the old one (5.8)
unfoldable pub size_sent : Change → (size i : ℕ) → ℕ
size_sent (writing p d) size i = max size (min (p + length d) (i * PAGE_BYTES + PAGE_BYTES))
size_sent (shrinking n) size i = size
size_sent (growing n) size i = size

-- a truncation ends with a cut
unfoldable pub cuts : Change → Bool
cuts (writing p d) = false
cuts (shrinking n) = true
cuts (growing n) = true

-- what it leaves: the bytes, the size, the cursor; and the number that it is done with
unfoldable pub bytes_after : Change → List ℕ → List ℕ
bytes_after (writing p d) b = splice b p d
bytes_after (shrinking n) b = resized b n
bytes_after (growing n) b = resized b n

unfoldable pub size_after : Change → ℕ → ℕ
size_after (writing p d) size = max size (p + length d)
size_after (shrinking n) size = n
size_after (growing n) size = n

unfoldable pub cursor_after : Change → ℕ → ℕ
cursor_after (writing p d) cursor = p + length d
cursor_after (shrinking n) cursor = min cursor n
cursor_after (growing n) cursor = cursor

unfoldable pub number_of : Change → ℕ
number_of (writing p d) = length d
number_of (shrinking n) = 0
number_of (growing n) = 0

-- a change that a file of this size can have: a write at a position in it, of a byte at least; a truncation to fewer bytes; to more
abbrev pub FitsSize : Change → ℕ → Type 0
FitsSize (writing p d) size = (p ≤ size) × (0 < length d)
FitsSize (shrinking n) size = n < size
FitsSize (growing n) size = size < n

-- the page that a growth adds: where the number of pages rises, one of zeros (SPECIFICATION 10.3)
unfoldable pub added_by : Change → (size : ℕ) → List (List ℕ)
added_by (writing p d) size = []
added_by (shrinking n) size = []
added_by (growing n) size = pick (ltb (pages_for size) (pages_for n)) (page_of [] 0 ∷ []) []

-- A full disk (SPECIFICATION 5.5): a write's store may meet one, and a growing cut; no other request of a change.
abbrev pub stores_more : Change → Bool
stores_more (writing p d) = true
stores_more (shrinking n) = false
stores_more (growing n) = false

abbrev pub cuts_more : Change → Bool
cuts_more (writing p d) = false
cuts_more (shrinking n) = false
cuts_more (growing n) = true

-- the write of the bytes before page i
unfoldable pub before : Change → ℕ → Change
before (writing p d) i = writing p (take (i * PAGE_BYTES - p) d)
before (shrinking n) i = shrinking n
before (growing n) i = growing n
