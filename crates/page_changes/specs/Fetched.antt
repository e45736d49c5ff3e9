-- A page that a pending change fetched, judged.
--   JudgedPage m l b r    b is the stop reason of the page r that the numbers l wait for, or 0
--   Fetched m r b         the same of the memory's own numbers; 0 also says that one more digest has room
-- Assumes nothing.
use Rattle.std.specs.Prelude.{◌≡◌, List, [], ℕ, ◌<◌, ◌≤◌, length, get_or, take}
use Rattle.filesystem.specs.Tables.{PAGES, PAGE_BYTES, node_at, pages_for, page_total}
use Rattle.filesystem.specs.Image.{divide}
use Rattle.memory.specs.Layout.{mem_of, new_digests}
use Rattle.guard_state.specs.declared.Guard.{Guard}
use Rattle.guard_state.specs.State.{numbers_of}
use Rattle.replies.specs.Judged.{page_reason}

abbrev pub JudgedPage : (m : List ℕ) (l : Guard) (b : ℕ) (r : List ℕ) → Type 0
JudgedPage m l b r =
    l.node < l.nodes → l.page < pages_for (node_at (mem_of m).nodes l.node).size
    → page_total (take l.nodes (mem_of m).nodes) ≤ PAGES
    → b ≡ page_reason (get_or (get_or (divide (take l.nodes (mem_of m).nodes) (mem_of m).digests) l.node []) l.page
    []) r

pub record Fetched (m r : List ℕ) (b : ℕ) : Type 0 where
  pub judged : (numbers_of (mem_of m).head).digests < new_digests → JudgedPage m (numbers_of (mem_of m).head) b r
  pub long : b ≡ 0 → length r ≡ PAGE_BYTES
  pub room : b ≡ 0 → (numbers_of (mem_of m).head).digests < new_digests
