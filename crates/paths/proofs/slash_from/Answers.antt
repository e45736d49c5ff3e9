-- `paths::slash_from` meets its contract. The invariant: the search from `at` is the search from i. Assumes nothing.
use native.Mathlib.Omega.{arith}
use borrow.Author.Tests.{eq-eqb, ne_eqb}
use Rattle.paths.specs.Parts.{is_slash}
use Rattle.lists.specs.Scans.{scan-here, scan_on, scan-end}
use Rattle.paths.proofs.slash_from.Goals as goal

pub returns-then-path-i-eq47 : goal.returns-then-path-i-eq47
returns-then-path-i-eq47 c =
    let s = c.args.path.now in
    let l = c.loop-i in
    (scan-here is_slash 0 _ s l.i l.invariant.2 (omega arith) (eq-eqb _ _ c.if-path-i-eq47.true), omega arith, omega arith)

pub loop-i-preserved : goal.loop-i-preserved
loop-i-preserved c =
    let s = c.args.path.now in
    let l = c.loop-i in
    (omega arith, omega arith, scan_on is_slash 0 _ s l.i l.invariant.2 (omega arith) (ne_eqb _ _ c.if-path-i-eq47.false))

pub returns : goal.returns
returns c =
    let s = c.args.path.now in
    let l = c.loop-i in
    (omega (arith, scan-end is_slash 0 _ s l.i l.invariant.2 (omega arith)), omega arith, omega arith)
