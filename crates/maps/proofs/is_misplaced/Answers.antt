-- `maps::is_misplaced` meets its contract. Assumes nothing.
use native.Mathlib.Omega.{arith}
use mathlib.Core.Path.{sym, ◌∙◌}
use Prim.Native.Nat.{◌%◌}
use borrow.Author.Tests.{eq-eqb, ne_eqb}
use Rattle.maps.specs.Judged.{is_misplaced}
use Rattle.maps.specs.laws.Numbers.{last_beyond}
use Rattle.maps.proofs.is_misplaced.Goals as goal

pub returns-then-address-eq0 : goal.returns-then-address-eq0
unfolding is_misplaced
returns-then-address-eq0 c = sym (rw (eq-eqb c.args.address 0 c.if-address-eq0.true))

pub returns-then-address-ne0 : goal.returns-then-address-ne0
unfolding is_misplaced
returns-then-address-ne0 c =
    let a = c.args.address in
    sym (rw (ne_eqb a 0 c.if-address-eq0.false, ne_eqb (a % 4096) 0 c.if-address-ne0.true))

pub returns : goal.returns
unfolding is_misplaced
returns c =
    let a = c.args in
    last_beyond a.address a.size (omega arith) (omega arith)
    ∙ sym (rw (ne_eqb a.address 0 c.if-address-eq0.false, eq-eqb (a.address % 4096) 0 c.if-address-ne0.false))
