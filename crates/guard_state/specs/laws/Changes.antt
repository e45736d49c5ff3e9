-- A change that a file can have is one that the tables can take.
--   Covered q size    each page that q adds to a file of this size is one that it stores
-- Assumes nothing.
use Rattle.std.specs.Prelude.{ℕ, ◌-◌, ◌≤◌, ◌<◌, max, List, length}
use native.Mathlib.Omega.{arith}
use Rattle.filesystem.specs.Tables.{PAGES, Node, node_at, set_size, pages_for, page_total}
use Rattle.memory.specs.Layout.{new_digests}
use Rattle.rules.specs.Pages.{page_at, Change, writing, shrinking, growing, first, last, size_after, FitsSize}
use Rattle.tables.specs.View.{Changeable}

abbrev pub Covered : Change → ℕ → Type 0
Covered q size = pages_for (size_after q size) ≤ max (pages_for size) (last q)

-- where its pages begin and end
module _ (size : ℕ) where
  begins : (q : Change) → FitsSize q size → first q ≤ pages_for size
  unfolding first page_at pages_for
  begins (writing p d) g = let z = g.0 in omega arith
  begins (shrinking n) g = omega arith
  begins (growing n) g = omega arith

  ends : (q : Change) → FitsSize q size → (first q ≤ last q) × (last q ≤ pages_for (size_after q size))
  unfolding size_after first last page_at pages_for
  ends (writing p d) g = let z = g.0 in (omega arith, omega arith)
  ends (shrinking n) g = (omega arith, omega arith)
  ends (growing n) g = (omega arith, omega arith)

-- a change that the file can have, with a digest for each page that it stores
pub change_changeable : (ns : List Node) (k : ℕ) (q : Change) → k < length ns → FitsSize q (node_at ns k).size
    → page_total ns ≤ PAGES
    → page_total (set_size ns k (size_after q (node_at ns k).size)) ≤ PAGES
    → last q - first q ≤ new_digests → Covered q (node_at ns k).size
    → Changeable ns k (size_after q (node_at ns k).size) (first q) (last q - first q)
change_changeable ns k q h g b a f z =
    let (l, e) = ends (node_at ns k).size q g in
    record {
      known = h;
      room_before = b;
      room_after = a;
      begins = begins (node_at ns k).size q g;
      ends = omega arith;
      covered = omega arith;
      few = f;
    }
