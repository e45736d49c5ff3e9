-- `image_records::page_sum` meets its contract. The invariant says what remains to be done. Assumes nothing.
use mathlib.Core.Path.{◌≡◌}
use Rattle.image_records.specs.Records.{nodes_from, end_from}
use Prim.Native.Nat.{◌+◌, ◌-◌, ◌*◌, ◌≤◌}
use Rattle.filesystem.specs.Tables.{page_total}
use Rattle.image_records.specs.Laid.{laid}
use Rattle.image_records.proofs.page_sum.Given as goal

abbrev pub invariant-loop-i : goal.invariant-loop-i
invariant-loop-i l =
    (end_from (laid l.layout) l.image l.at (l.n - l._i) ≡ end_from (laid l.layout) l.image 4 l.n)
    × (l.total + page_total (nodes_from (laid l.layout) l.image l.at (l.n - l._i)) ≡ page_total
    (nodes_from (laid l.layout) l.image 4 l.n))
    × (l.total ≤ l._i * 4194304)
