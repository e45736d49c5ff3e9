-- `image_records::records_end` meets its contract. The invariant says what remains to be done. Assumes nothing.
use mathlib.Core.Path.{◌≡◌}
use Rattle.image_records.specs.Laid.{laid}
use Rattle.image_records.specs.Records.{end_from}
use Prim.Native.Nat.{◌≤◌, ◌-◌}
use lib.ListN.{length}
use Rattle.image_records.proofs.records_end.Given as goal

abbrev pub invariant-loop-i : goal.invariant-loop-i
invariant-loop-i l = (l.at ≤ length l.image)
    × (end_from (laid l.layout) l.image l.at (l.n - l._i) ≡ end_from (laid l.layout) l.image 4 l.n)
