-- `reads::put_answer` meets its contract. Assumes nothing.
use native.Mathlib.Omega.{arith}
use mathlib.Core.Path.{ap, ◌∙◌}
use mathlib.Core.List.{List, ◌++◌}
use Prim.Native.Nat.{ℕ}
use Rattle.lists.specs.Parts.{part, overwrite}
use Rattle.lists.specs.PartLaws.{overwrite_next}
use Rattle.rules.specs.Skeleton.{at_front}
use Rattle.reads.proofs.put_answer.Goals as goal

pub returns : goal.returns
unfolding part
returns c =
    let a = c.args in
    c.put-2.ensures
    ∙ ap (λ (l : List ℕ). overwrite l a.bytes a.more.now) c.put.ensures
    ∙ overwrite_next a.answer.now 0 _ a.more.now a.bytes (omega (arith, c.staged-b.ensures.1)) (omega arith)
    ∙ ap (λ (l : List ℕ). at_front (l ++ a.more.now) a.answer.now) c.staged-b.ensures.0
