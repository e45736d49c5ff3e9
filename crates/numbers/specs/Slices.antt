-- Slices as contracts speak of them.
--   Slice                a slice that a function may write; `now` has its bytes
--   Lent                 the same at the function's entry and at its exit
--   KeepsLength s        it is as long as it was
--   Overwritten s at x   x stands in it from `at` on, and all else is as it was
-- Assumes nothing.
use Rattle.std.specs.Prelude.{◌≡◌, List, ℕ, length}
use Rattle.std.specs.Borrow.{MutBor}
use denote.Triple.Both.{Both}
use Rattle.lists.specs.Parts.{overwrite}

abbrev pub Slice : Type 0
Slice = MutBor (List ℕ)

abbrev pub Lent : Type 0
Lent = Both Slice Slice

abbrev pub KeepsLength : Lent → Type 0
KeepsLength s = length s.exit.now ≡ length s.entry.now

abbrev pub Overwritten : Lent → ℕ → List ℕ → Type 0
Overwritten s at x = s.exit.now ≡ overwrite s.entry.now at x
