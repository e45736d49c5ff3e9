-- `requests::put_numbered` meets its contract. Assumes nothing.
use native.Mathlib.Omega.{arith}
use mathlib.Core.Path.{refl, ◌∙◌}
use mathlib.Core.List.{[], ◌∷◌}
use Rattle.requests.specs.laws.PathRequestsLaws.{behind-front}
use Rattle.requests.proofs.put_numbered.Goals as goal

pub returns : goal.returns
returns c =
    let a = c.args in (
      c.put-2.ensures ∙ rw c.put.ensures (behind-front (a.kind ∷ a.number ∷ []) a.path.now a.out.now 2
          refl (omega arith)),
      refl,
    )
