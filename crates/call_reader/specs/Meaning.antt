-- Which call of the rules a parsed call and the bytes mean, and the ranges of its numbers.
--   made_by kind number    the call of a kind by path
--   meant                  the call that a parsed call is
--   meant_of               none where nothing was read
--   NumberFits, Ranges     what its numbers may be
--   RangesOf               nothing is said where nothing was read
--   HandleOf               a handle, or that the length is wrong
-- Assumes nothing.
use Rattle.std.specs.Prelude.{true, List, ◌≡◌, ℕ, ◌+◌, ◌-◌, ◌^◌, ◌<◌, ◌≤◌, eqb, length, take, drop}
use Rattle.std.specs.Prelude.{Option as Maybe, Some, None}
use Rattle.std.proofs.Math.Option.{Option, some, none}
use Rattle.lists.specs.Pick.{pick}
use Rattle.lists.specs.Form.{bind}
use Rattle.lists.specs.LittleEndian.{decode}
use Rattle.lists.specs.Parts.{part}
use Rattle.filesystem.specs.Tables.{ID_BYTES, DATA_BYTES}
use Rattle.filesystem.specs.Paths.{Path, read_path}
use Rattle.rules.specs.Calls.{Call, create, mkdir, open_as, close, seek, read, write, truncate, remove, rmdir, chmod}
use Rattle.rules.specs.MapRules.{is_map_size}
use Rattle.rules.specs.Calls.{readdir, stat, map_memory, unmap, rename, by_path}
use Rattle.call_reader.specs.declared.ParsedCall.{ParsedCall}
use Rattle.call_reader.specs.declared.ParsedCall.TheVariants.{ByPath, Close, Seek, Read, Write, Truncate}
use Rattle.call_reader.specs.declared.ParsedCall.TheVariants.{Map, Unmap, Rename}

-- the call of a kind with a path
unfoldable pub made_by : (kind number : ℕ) → Path → Call
made_by k n p =
    pick (eqb k 1) (create n p)
    (pick (eqb k 2) (mkdir n p)
    (pick (eqb k 3) (open_as n p)
    (pick (eqb k 9) (remove p)
    (pick (eqb k 10) (rmdir p)
    (pick (eqb k 11) (chmod n p)
    (pick (eqb k 12) (readdir p)
    (stat p)))))))

unfoldable pub meant : ParsedCall → List ℕ → Option Call
meant (ByPath k n start) s = by_path (made_by k n) (drop start s)
meant (Close h) s = some (close h)
meant (Seek h n) s = some (seek h n)
meant (Read h n) s = some (read h n)
meant (Write h start) s = some (write h (drop start s))
meant (Truncate h n) s = some (truncate h n)
meant (Map n) s = some (map_memory n)
meant (Unmap a) s = some (unmap a)
meant (Rename second) s = bind (read_path (take (second - 2) (drop 2 s))) (λ p. by_path (rename p) (drop second s))

unfoldable pub meant_of : Maybe ParsedCall → List ℕ → Option Call
meant_of None s = none
meant_of (Some p) s = meant p s

-- a kind with a path, and the mode or the rights that it can have
pub record NumberFits (k n : ℕ) : Type 0 where
  pub least : 1 ≤ k
  pub most : k ≤ 13
  pub between : 4 ≤ k → 9 ≤ k
  pub mode : n ≤ 7
  pub rights : k ≡ 3 → (1 ≤ n) × (n ≤ 3)

-- of a call of `size` bytes
abbrev pub Ranges : ParsedCall → (size : ℕ) → Type 0
Ranges (ByPath k n start) size = (start ≤ size) × NumberFits k n
Ranges (Close h) size = h < 256 ^ ID_BYTES
Ranges (Seek h n) size = (h < 256 ^ ID_BYTES) × (n < 256 ^ 8)
Ranges (Read h n) size = (h < 256 ^ ID_BYTES) × (n ≤ DATA_BYTES)
Ranges (Write h start) size = (h < 256 ^ ID_BYTES) × (start ≤ size) × (size - start ≤ DATA_BYTES)
Ranges (Truncate h n) size = (h < 256 ^ ID_BYTES) × (n < 256 ^ 8)
Ranges (Map n) size = is_map_size n ≡ true
Ranges (Unmap a) size = a < 256 ^ 8
Ranges (Rename second) size = (2 ≤ second) × (second ≤ size) × (second ≤ 257)

abbrev pub RangesOf : Maybe ParsedCall → (size : ℕ) → Type 0
RangesOf None size = Unit {0}
RangesOf (Some p) size = Ranges p size

-- the handle of a call that has `after` bytes behind it
abbrev pub HandleOf : Maybe ℕ → (after : ℕ) → List ℕ → Type 0
HandleOf None after s = length s ≡ 1 + ID_BYTES + after → ⊥
HandleOf (Some h) after s =
    (length s ≡ 1 + ID_BYTES + after) × (h ≡ decode (part 1 ID_BYTES s)) × (h < 256 ^ ID_BYTES)
