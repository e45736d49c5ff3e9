-- A mode that was set, a stat that came.
-- Assumes nothing.
use Rattle.std.specs.Prelude.{◌≡◌, List, ℕ, ◌<◌}
use Rattle.std.proofs.Common.{ap, ◌∙◌, arith}
use Rattle.filesystem.specs.Tables.{Tables, set_mode}
use Rattle.rules.specs.Requests.{asked, changing, stating}
use Rattle.rules.specs.Skeleton.{Config}
use Rattle.rules.specs.Valid.{ChangingFits}
use Rattle.memory.specs.Layout.{Mem, mem_of, with_nodes}
use Rattle.tables.specs.View.{View, view_of}
use Rattle.tables.specs.laws.ViewLaws.{view_mode}
use Rattle.guard_state.specs.Calls.{CHANGING, STATING}
use Rattle.guard_state.specs.declared.Guard.{Guard}
use Rattle.guard_state.specs.State.{numbers_of, state_in, state_of}
use Rattle.guard_state.specs.Waits.{ends, resting_state}
use Rattle.guard_state.specs.laws.LoadedLaws.{nodes-count}
use Rattle.machine.specs.Consistent.{Consistent}
use Rattle.guard_state.specs.laws.PendingLaws.{chmod_pending, stat_pending}
use Rattle.replies.specs.laws.PremiseLaws.{known}

-- a mode that was set, and nothing pending
pub chmod-ends : (c : Config) (m x : List ℕ) (k mode : ℕ) → mem_of x ≡ with_nodes (set_mode (mem_of m).nodes k mode)
    (mem_of m)
    → k < (numbers_of (mem_of m).head).nodes
    → ends c (state_of c x) (state_of c x).skeleton.tables (state_of c x).contents
    ≡ ends c (state_of c m) (record {
      nodes = set_mode (state_of c m).skeleton.tables.nodes k mode;
      opens = (state_of c
          m).skeleton.tables.opens;
    }) (state_of c m).contents
unfolding ends resting_state state_of state_in view_of
chmod-ends c m x k mode e h =
    let n = numbers_of (mem_of m).head in
    ap (λ (z : Mem). let i = numbers_of z.head in let v = view_of i.nodes i.opens z in resting_state c v) e
    ∙ ap (λ (v : View). resting_state c v) (view_mode (mem_of m) n.nodes n.opens k mode h)

-- what the tables have for the pending call
module _ (c : Config) (m : List ℕ) (h : Consistent c (state_of c m)) where
  abbrev g : Guard
  g = numbers_of (mem_of m).head

  abbrev t : Tables
  t = (state_of c m).skeleton.tables

  pub chmod_premises : g.call ≡ CHANGING → (g.node < g.nodes) × (g.mode < 256)
  chmod_premises e =
      let f : ChangingFits t.nodes t.opens g.node g.mode = known c m h
      (asked (changing g.node g.mode)) (chmod_pending c m e) in
      (omega (arith, f.known, nodes-count c m), omega (arith, f.modes))

  pub stat_premises : g.call ≡ STATING → g.node < g.nodes
  stat_premises e = omega (arith, known c m h (asked (stating g.node)) (stat_pending c m e), nodes-count c m)
