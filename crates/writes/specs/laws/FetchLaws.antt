-- When a write fetches a page, test by test.
-- Assumes nothing.
use Rattle.std.specs.Prelude.{◌≡◌, true, false, ◌&&◌, ◌||◌, List, ℕ, ◌+◌, ◌*◌, ◌≤◌, ◌<◌, min}
use Rattle.std.proofs.Math.Path.{ap}
use Rattle.std.proofs.Common.{sym, ◌∙◌}
use Rattle.std.proofs.Math.Dec.{ltb}
use Rattle.std.proofs.Math.ListN.{length}
use borrow.Author.Tests.{lt-ltb, le-ltb}
use Rattle.filesystem.specs.Tables.{PAGE_BYTES}
use Rattle.rules.specs.Pages.{writing, fetches}

module _ (position size page : ℕ) (d : List ℕ) where
  -- the page has no byte below the old end
  pub fetches-new : size ≤ page * PAGE_BYTES → fetches (writing position d) size page ≡ false
  unfolding fetches
  fetches-new h = rw (le-ltb (page * PAGE_BYTES) size h)

  -- a byte before the write stays
  pub fetches-before : page * PAGE_BYTES < size → page * PAGE_BYTES < position
      → fetches (writing position d) size page ≡ true
  unfolding fetches
  fetches-before h g = rw (lt-ltb (page * PAGE_BYTES) size h, lt-ltb (page * PAGE_BYTES) position g)

  -- or one behind it
  pub fetches-behind : (end : ℕ) → page * PAGE_BYTES < size → position ≤ page * PAGE_BYTES → end ≡ position + length d
      → fetches (writing position d) size page ≡ ltb end (min size (page * PAGE_BYTES + PAGE_BYTES))
  unfolding fetches
  fetches-behind end h g e =
      ap (λ b. b && (ltb (page * PAGE_BYTES) position || ltb (position + length d)
      (min size (page * PAGE_BYTES + PAGE_BYTES)))) (lt-ltb (page * PAGE_BYTES) size h)
      ∙ ap (λ b. b || ltb (position + length d) (min size (page * PAGE_BYTES + PAGE_BYTES)))
      (le-ltb (page * PAGE_BYTES) position g)
      ∙ ap (λ (i : ℕ). ltb i (min size (page * PAGE_BYTES + PAGE_BYTES))) (sym e)
