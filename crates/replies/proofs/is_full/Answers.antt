-- `replies::is_full` meets its contract. Assumes nothing.
use mathlib.Core.Path.{ap, sym, ◌∙◌}
use lib.Dec.{eqb}
use Prim.Native.Nat.{ℕ}
use Rattle.refusals.specs.laws.NumberLaws.{passes_at_0}
use Rattle.replies.specs.laws.JudgedLaws.{full-status}
use Rattle.replies.proofs.is_full.Goals as goal

pub returns : goal.returns
returns c =
    let a = c.args in
    c.is_ok.ensures.value ∙ passes_at_0 _ ∙ ap (λ (b : ℕ). eqb b 0) c.judge_status.ensures
    ∙ sym (full-status a.reply.now)
