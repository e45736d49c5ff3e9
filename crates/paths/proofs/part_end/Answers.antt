-- `paths::part_end` meets its contract. The invariant: the search from `at` is the search from i. Assumes nothing.
use native.Mathlib.Omega.{arith}
use Rattle.std.specs.Prelude.{◌≡◌, true, get_or}
use Rattle.paths.specs.Parts.{is_end}
use Rattle.paths.specs.laws.PartsLaws.{end-slash, end-zero, end_neither}
use Rattle.lists.specs.Scans.{scan-here, scan_on, scan-end}
use Rattle.paths.proofs.part_end.Goals as goal
use Rattle.paths.proofs.part_end.Goals.{then-path-i-eq47-via-then-path-i-eq47}
use Rattle.paths.proofs.part_end.Goals.{then-path-i-eq47-via-else-path-i-eq47+then-path-i-eq0}

pub returns-then-path-i-eq47 : goal.returns-then-path-i-eq47
returns-then-path-i-eq47 c =
    let s = c.args.path.now in
    let l = c.loop-i in
    let e : is_end (get_or s l.i 0) ≡ true = elim c.then-path-i-eq47.branch [
      | then-path-i-eq47-via-then-path-i-eq47 w ↦ end-slash _ w.if-path-i-eq47.true
      | then-path-i-eq47-via-else-path-i-eq47+then-path-i-eq0 w ↦ end-zero _ w.if-path-i-eq0.true
    ] in
    (scan-here is_end 0 _ s l.i l.invariant.2 (omega arith) e, omega arith, omega arith)

pub loop-i-preserved : goal.loop-i-preserved
loop-i-preserved c =
    let s = c.args.path.now in
    let l = c.loop-i in (
      omega arith,
      omega arith,
      scan_on is_end 0 _ s l.i l.invariant.2 (omega arith)
          (end_neither _ c.if-path-i-eq47.false c.if-path-i-eq0.false),
    )

pub returns : goal.returns
returns c =
    let s = c.args.path.now in
    let l = c.loop-i in
    (omega (arith, scan-end is_end 0 _ s l.i l.invariant.2 (omega arith)), omega arith, omega arith)
