-- `writes::is_fetched` meets its contract. Assumes nothing.
use native.Mathlib.Omega.{arith}
use mathlib.Core.Path.{ap, sym, ◌∙◌}
use Prim.Native.Nat.{ℕ}
use lib.Dec.{ltb}
use Rattle.writes.specs.laws.FetchLaws.{fetches-new, fetches-before, fetches-behind}
use Rattle.writes.proofs.is_fetched.Goals as goal

pub returns-then-size-start : goal.returns-then-size-start
returns-then-size-start c d e = let a = c.args in sym (fetches-new a.position a.size a.page d c.if-size-start.true)

pub returns-then-start-position : goal.returns-then-start-position
returns-then-start-position c d e = let a = c.args in sym (fetches-before a.position a.size a.page d
    (omega (arith, c.if-size-start.false)) c.if-start-position.true)

pub returns : goal.returns
returns c d e =
    let a = c.args in
    ap (λ (i : ℕ). ltb a.end i) c.min.ensures
    ∙ sym (fetches-behind a.position a.size a.page d a.end (omega (arith, c.if-size-start.false))
    (omega (arith, c.if-start-position.false)) e)
