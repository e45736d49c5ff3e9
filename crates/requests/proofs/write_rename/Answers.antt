-- `requests::write_rename` meets its contract. Assumes nothing.
use native.Mathlib.Omega.{arith}
use mathlib.Core.Path.{◌∙◌}
use mathlib.Core.List.{◌∷◌}
use lib.ListN.{length, length-append}
use Rattle.rules.specs.Requests.{store_length}
use Rattle.requests.specs.PathRequests.{rename_request}
use Rattle.requests.specs.laws.PathRequestsLaws.{behind-front}
use Rattle.requests.proofs.write_rename.Goals as goal

pub put_numbered-front-requires : goal.put_numbered-front-requires
unfolding store_length
put_numbered-front-requires c = omega arith

pub put-requires : goal.put-requires
unfolding store_length
put-requires c = omega (arith, c.put_numbered-front.ensures.1)

pub returns : goal.returns
unfolding rename_request store_length
returns c =
    let a = c.args in
    let e = c.put_numbered-front.ensures.1 in (
      c.put.ensures ∙ rw c.put_numbered-front.ensures.0 (behind-front (16 ∷ length a.first.now ∷ a.first.now)
          a.second.now a.out.now _ (omega arith) (omega arith)),
      omega (arith, length-append a.first.now a.second.now),
    )
