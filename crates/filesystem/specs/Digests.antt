-- A file's page digests, one for each page.
-- Assumes nothing.
use Rattle.std.specs.Prelude.{List, [], ℕ, ◌-◌, length, get_or}
use Rattle.lists.specs.Pick.{pick}
use Rattle.lists.specs.Cells.{inside, tab}
use Rattle.filesystem.specs.Tables.{pages_for}

-- those of a file of this size, with new ones from page `from` on; a page that is added besides has the digest `blank`
unfoldable pub replaced : (blank : List ℕ) → List (List ℕ) → (size from : ℕ) → List (List ℕ) → List (List ℕ)
replaced blank ds size from new = tab (pages_for size) (λ i. pick (inside from (length new) i) (get_or new (i - from) []) (get_or ds i blank))
