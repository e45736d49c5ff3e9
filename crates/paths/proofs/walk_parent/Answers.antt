-- `paths::walk_parent` meets its contract. The invariant: the whole walk is the walk from node d along what stands from
-- `at` on.
-- Assumes nothing.
use native.Mathlib.Omega.{arith}
use Prim.Native.Nat.{ℕ, ◌+◌, ◌-◌}
use mathlib.Core.Path.{◌≡◌, refl, sym, ap, ◌∙◌}
use mathlib.Core.List.{List}
use lib.ListN.{length, take, drop}
use Rattle.filesystem.specs.Tables.{Node}
use Rattle.filesystem.specs.Paths.{split}
use Rattle.memory.specs.Layout.{mem_of}
use Rattle.paths.specs.Walks.{placed_from}
use Rattle.paths.specs.laws.WalkLaws.{placed-root, placed_parts, step_stop, step-absent, step_on, step-last}
use Rattle.paths.specs.laws.WalkLaws.{child_front}
use Rattle.refusals.specs.laws.NumberLaws.{number_positive, passed_on}
use Rattle.tables.specs.laws.FoundLaws.{found_none, found_some}
use Rattle.tables.specs.laws.RowsInUse.{count-nodes}
use Rattle.paths.proofs.walk_parent.Goals as goal

-- the nodes
abbrev nodes_in : List ℕ → ℕ → List Node
nodes_in m n = take n (mem_of m).nodes

pub returns-then-path-lt2 : goal.returns-then-path-lt2
returns-then-path-lt2 c = let a = c.args in sym (placed-root (nodes_in a.m.now a.n) a.path.now
    c.if-path-lt2.true)

pub loop-end-init : goal.loop-end-init
loop-end-init c =
    let a = c.args in
    let e = c.slash_from-end.ensures in (
      omega arith,
      e.1,
      e.2,
      e.0,
      placed_parts (nodes_in a.m.now a.n) a.path.now (omega arith),
      c.places_for-firsts.ensures,
    )

pub returns-in_err-check_search : goal.returns-in_err-check_search
returns-in_err-check_search c =
    let a = c.args in
    let l = c.loop-end in
    let n = number_positive c.in_err-check_search.field-0.0 in
    let stop = step_stop (nodes_in a.m.now a.n) a.path.now l.d l.at l.end l.invariant.3 (omega arith) _
    c.in_err-check_search.ensures (omega arith) in
    passed_on _ _ c.from_residual.ensures.1 ∙ sym (l.invariant.4 ∙ stop)

pub returns-in_default : goal.returns-in_default
returns-in_default c =
    let a = c.args in
    let l = c.loop-end in
    let s = a.path.now in
    let ns = nodes_in a.m.now a.n in
    let n : length ns ≡ a.n = count-nodes a.m.now a.n (omega arith) in
    let h = found_none _ _ (sym c.in_default.is ∙ c.find_child_by.ensures) in
    let k = child_front a.n (mem_of a.m.now).nodes l.d _ _ (take (l.end - l.at) (drop l.at s)) (omega arith)
    c.node_id-id.ensures refl in
    sym (l.invariant.4 ∙ step-absent ns s l.d l.at l.end l.invariant.3 (omega arith) (omega arith)
    c.in_ok-check_search.ensures (omega (arith, k)))

pub loop-end-preserved : goal.loop-end-preserved
loop-end-preserved c =
    let a = c.args in
    let l = c.loop-end in
    let s = a.path.now in
    let e = c.slash_from-end-in-loop-end.ensures in
    let ns = nodes_in a.m.now a.n in
    let n : length ns ≡ a.n = count-nodes a.m.now a.n (omega arith) in
    let (q, h) = found_some _ _ (sym c.in-Some.is ∙ c.find_child_by.ensures) in
    let k = child_front a.n (mem_of a.m.now).nodes l.d _ _ (take (l.end - l.at) (drop l.at s)) (omega arith)
    c.node_id-id.ensures q in
    let on = step_on ns s l.d l.at l.end l.invariant.3 (omega arith) (omega arith) c.in_ok-check_search.ensures
    (omega (arith, k)) in (
      omega arith,
      e.1,
      e.2,
      e.0,
      l.invariant.4 ∙ on
          ∙ ap (λ (x : ℕ). placed_from ns (length s) x (split (drop (l.end + 1) s))) (sym k),
      l.invariant.5,
    )

pub returns-in_err-check_search-2 : goal.returns-in_err-check_search-2
returns-in_err-check_search-2 c =
    let a = c.args in
    let l = c.loop-end in
    let n = number_positive c.in_err-check_search-2.field-0.0 in
    let stop = step_stop (nodes_in a.m.now a.n) a.path.now l.d l.at l.end l.invariant.3 (omega arith) _
    c.in_err-check_search-2.ensures (omega arith) in
    passed_on _ _ c.from_residual-in_err-check_search-2.ensures.1 ∙ sym (l.invariant.4 ∙ stop)

pub returns : goal.returns
returns c =
    let a = c.args in
    let l = c.loop-end in
    let ns = nodes_in a.m.now a.n in
    sym (l.invariant.4 ∙ step-last ns a.path.now l.d l.at l.end l.invariant.3 (omega arith) (omega arith)
    c.in_ok-check_search-2.ensures)
