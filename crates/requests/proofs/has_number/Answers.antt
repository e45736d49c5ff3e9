-- `requests::has_number` meets its contract. Assumes nothing.
use mathlib.Core.Path.{sym}
use Rattle.requests.specs.laws.PathRequestsLaws.{number-low, number-high}
use Rattle.requests.proofs.has_number.Goals as goal

pub returns-then-kind-le-OPEN : goal.returns-then-kind-le-OPEN
returns-then-kind-le-OPEN c = sym (number-low c.args.kind c.if-kind-le-OPEN.true)

pub returns : goal.returns
returns c = sym (number-high c.args.kind c.if-kind-le-OPEN.false)
