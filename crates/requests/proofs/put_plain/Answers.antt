-- `requests::put_plain` meets its contract. Assumes nothing.
use native.Mathlib.Omega.{arith}
use mathlib.Core.Path.{refl, ◌∙◌}
use mathlib.Core.List.{[], ◌∷◌}
use Rattle.requests.specs.laws.PathRequestsLaws.{behind-front}
use Rattle.requests.proofs.put_plain.Goals as goal

pub returns : goal.returns
returns c =
    let a = c.args in (
      c.put-2.ensures ∙ rw c.put.ensures (behind-front (a.kind ∷ []) a.path.now a.out.now 1 refl
          (omega arith)),
      refl,
    )
