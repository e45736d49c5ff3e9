-- `maps::is_zero_from` meets its contract. Assumes nothing.
use mathlib.Core.Path.{◌≡◌, ◌∙◌}
use mathlib.Core.Bool.{true, false}
use lib.Dec.{eqb}
use lib.ListN.{drop, length-drop}
use borrow.Author.Tests.{tests}
use Rattle.std.proofs.Common.{rules}
use Rattle.std.proofs.Math.Seq.{take-length}
use Rattle.std.proofs.lemmas.Iterator.{cases_from_all, YieldsList-from_slice}
use Rattle.lists.specs.Chains.{all-every}
use Rattle.maps.proofs.is_zero_from.Goals as goal

pub returns : goal.returns
returns c =
    let x = drop c.args.from c.args.x.now in
    let e : c.iter.result.rest.now ≡ x =
    rw (← length-drop c.args.from c.args.x.now) at c.iter.ensures.rest ∙ take-length x in
    all-every (eqb 0) 0 x c.all.result
    (cases_from_all _ _ _ (λ b. eqb 0 b ≡ true) (λ b. eqb 0 b ≡ false) c.all.ensures.ran
    (YieldsList-from_slice x e) (λ y q k. search (rules, tests)) (λ y q k. search (rules, tests)))
