-- A node that has its new parent and name.
-- Assumes nothing.
use Rattle.std.specs.Prelude.{◌≡◌, refl, List, ℕ, ◌<◌, ◌≤◌, length, take}
use Rattle.std.proofs.Common.{ap, ◌∙◌, arith}
use Rattle.filesystem.specs.Tables.{NAME_BYTES, Tables, renamed, with_place}
use Rattle.rules.specs.Requests.{asked, renaming}
use Rattle.rules.specs.Skeleton.{Config}
use Rattle.rules.specs.Valid.{RenamingFits}
use Rattle.memory.specs.Layout.{Mem, mem_of, memory_size, with_nodes}
use Rattle.tables.specs.View.{View, view_of}
use Rattle.tables.specs.laws.ViewLaws.{view_node}
use Rattle.guard_state.specs.Calls.{RENAMING}
use Rattle.guard_state.specs.declared.Guard.{Guard}
use Rattle.guard_state.specs.State.{numbers_of, state_in, state_of, staged_bytes}
use Rattle.guard_state.specs.Waits.{ends, resting_state}
use Rattle.guard_state.specs.laws.LoadedLaws.{nodes-count}
use Rattle.machine.specs.Consistent.{Consistent}
use Rattle.guard_state.specs.laws.PendingLaws.{rename_pending}
use Rattle.guard_state.specs.laws.Ranges.{bytes-length}
use Rattle.replies.specs.Judged.{reason_for, status_reason}
use Rattle.replies.specs.laws.PremiseLaws.{known}
use Rattle.rules.specs.Rules.{reply_checks}

-- the reply is a status
pub renaming_reason : (t : Tables) (r : List ℕ) (k p : ℕ) (name : List ℕ)
    → reason_for t r (asked (renaming k p name)) ≡ status_reason r 0
unfolding reason_for status_reason reply_checks
renaming_reason t r k p name = refl

-- nothing is pending then
pub rename-ends : (c : Config) (m x : List ℕ) (k p : ℕ) (name : List ℕ)
    → mem_of x ≡ with_nodes (renamed (mem_of m).nodes k p name) (mem_of m) → k < (numbers_of (mem_of m).head).nodes
    → ends c (state_of c x) (state_of c x).skeleton.tables (state_of c x).contents
    ≡ ends c (state_of c m) (record {
      nodes = renamed (state_of c m).skeleton.tables.nodes k p name;
      opens = (state_of c m).skeleton.tables.opens;
    }) (state_of c m).contents
unfolding ends resting_state state_of state_in view_of renamed
rename-ends c m x k p name e h =
    let n = numbers_of (mem_of m).head in
    ap (λ (z : Mem). let i = numbers_of z.head in let v = view_of i.nodes i.opens z in resting_state c v) e
    ∙ ap (λ (v : View). resting_state c v) (view_node (mem_of m) n.nodes n.opens k (with_place p name) (λ z. refl) h)

-- what the tables have for the pending call
pub rename_premises : (c : Config) (m : List ℕ) → Consistent c (state_of c m) → memory_size ≤ length m
    → (numbers_of (mem_of m).head).call ≡ RENAMING
    → ((numbers_of (mem_of m).head).node < (numbers_of (mem_of m).head).nodes)
    × ((numbers_of (mem_of m).head).bytes ≤ NAME_BYTES)
unfolding staged_bytes
rename_premises c m h long e =
    let g : Guard = numbers_of (mem_of m).head in
    let t = (state_of c m).skeleton.tables in
    let f : RenamingFits t.nodes t.opens g.node g.parent (take g.bytes (mem_of m).staged) =
    known c m h (asked (renaming g.node g.parent (take g.bytes (mem_of m).staged))) (rename_pending c m e) in (
      omega (arith, f.movable.known, nodes-count c m),
      omega (arith, f.movable.short, bytes-length m long),
    )
