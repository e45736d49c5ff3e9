-- `image_records::is_plain` meets its contract. Assumes nothing.
use mathlib.Core.Path.{◌≡◌}
use mathlib.Core.Bool.{true, false}
use borrow.Author.Tests.{tests}
use Rattle.std.proofs.Common.{rules}
use Rattle.std.proofs.lemmas.Iterator.{cases_from_all, YieldsList-from_slice}
use Rattle.lists.specs.Chains.{all-every}
use Rattle.image_records.specs.Records.{plain_byte}
use Rattle.image_records.proofs.is_plain.Goals as goal

pub returns : goal.returns
returns c =
    let n = c.args.name.now in
    all-every plain_byte 0 n c.all.result
    (cases_from_all _ _ _ (λ b. plain_byte b ≡ true) (λ b. plain_byte b ≡ false) c.all.ensures.ran
    (YieldsList-from_slice n cc) (λ x q k. search (rules, tests)) (λ x q k. search (rules, tests)))
