-- A reason over the tables and the node that were loaded.
-- Assumes nothing.
use Rattle.std.specs.Prelude.{◌≡◌, List, ℕ}
use Rattle.std.proofs.Math.Path.{ap}
use Rattle.rules.specs.Requests.{Pending}
use Rattle.rules.specs.Skeleton.{Config}
use Rattle.machine.specs.Machine.{State, guard as digest_store}
use Rattle.memory.specs.Layout.{mem_of}
use Rattle.tables.specs.View.{tables_in, view_of}
use Rattle.guard_state.specs.declared.Guard.{Guard}
use Rattle.guard_state.specs.State.{numbers_of, state_in, state_of}
use Rattle.replies.specs.Judged.{reason_for}

module _ (c : Config) (m : List ℕ) (g : Guard) (e : g ≡ numbers_of (mem_of m).head) where
  abbrev here : State (digest_store c)
  here = state_of c m

  pub reason_loaded : (p : ℕ → Pending) (r : List ℕ) → reason_for (tables_in g.nodes g.opens (mem_of m)) r
      (p g.node)
      ≡ reason_for here.skeleton.tables r (p (numbers_of (mem_of m).head).node)
  unfolding state_of state_in tables_in view_of
  reason_loaded p r = ap (λ (x : Guard). reason_for (tables_in x.nodes x.opens (mem_of m)) r (p x.node)) e
