-- `image_records::are_marked` meets its contract. The invariant says what remains to be done. Assumes nothing.
use mathlib.Core.Path.{◌≡◌}
use Prim.Native.Nat.{◌-◌}
use Rattle.image_records.specs.Laid.{laid}
use Rattle.image_records.specs.Records.{end_from, marked_from}
use Rattle.image_records.proofs.are_marked.Given as goal

abbrev pub invariant-loop-i : goal.invariant-loop-i
invariant-loop-i l =
    (end_from (laid l.layout) l.image l.at (l.n - l._i) ≡ end_from (laid l.layout) l.image 4 l.n)
    × (marked_from (laid l.layout) l.image l.at (l.n - l._i) ≡ marked_from (laid l.layout) l.image 4 l.n)
