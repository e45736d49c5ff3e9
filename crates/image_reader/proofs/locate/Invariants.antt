-- `image_reader::locate` meets its contract. The invariant says which places are known. Assumes nothing.
use mathlib.Core.Path.{◌≡◌}
use Prim.Native.Nat.{ℕ, ◌+◌, ◌*◌, ◌≤◌, ◌<◌}
use lib.ListN.{length, get_or}
use Rattle.image_records.specs.Laid.{laid}
use Rattle.filesystem.specs.Tables.{NODES}
use Rattle.image_records.specs.Records.{end_from}
use Rattle.image_reader.proofs.locate.Given as goal

abbrev pub invariant-loop-i : goal.invariant-loop-i
invariant-loop-i l =
    (length l.starts ≡ NODES) × (l.at ≡ end_from (laid l.layout) l.image 4 l.i) × (l.at ≤ 4 + l.i * 279)
    × ((k : ℕ) → k < l.i → get_or l.starts k 0 ≡ end_from (laid l.layout) l.image 4 k)
