-- `writes::end_write` meets its contract. Assumes nothing.
use native.Mathlib.Omega.{arith}
use mathlib.Core.Path.{◌≡◌, ap, ◌∙◌}
use Prim.Native.Nat.{ℕ, max}
use Rattle.rules.specs.Pages.{writing}
use Rattle.guard_state.specs.State.{numbers_in}
use Rattle.guard_state.specs.laws.Ranges.{in_range}
use Rattle.writes.specs.laws.EndLaws.{finish_loaded, write-ended}
use Rattle.writes.proofs.end_write.Goals as goal

pub node_size-requires : goal.node_size-requires
node_size-requires c = ((in_range _ _ c.load-g.ensures).node, omega arith)

pub end_change-requires : goal.end_change-requires
end_change-requires c = (
  (in_range _ _ c.load-g.ensures).opened,
  omega arith,
)

-- a size, by the size that was read
sized : {a b x : ℕ} (y : ℕ) → a ≡ max x y → x ≡ b → a ≡ max b y
sized y e f = e ∙ ap (λ (j : ℕ). max j y) f

pub returns : goal.returns
returns c =
    let a = c.args in
    let e = c.load-g.ensures in record {
      sends = λ d x h q.
          finish_loaded d a.m.now x a.end a.count h _ e _ _ q
          (c.end_change.ensures.sends d (writing (numbers_in a.m.now).position x)
          (write-ended d a.m.now x a.end a.count h _ e _
          (sized _ c.max-size.ensures c.node_size.ensures))
          q);
      keeps_length = omega arith;
    }
