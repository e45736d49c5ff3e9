-- `creations::begin_new` meets its contract. Assumes nothing.
use native.Mathlib.Omega.{arith}
use mathlib.Core.Path.{refl, ap, sym, ◌∙◌}
use Prim.Native.Nat.{ℕ}
use Rattle.refusals.specs.Numbers.{numbered}
use Rattle.filesystem.specs.Tables.{Tables, node_at}
use Rattle.memory.specs.Layout.{mem_of}
use Rattle.tables.specs.View.{tables_in}
use Rattle.tables.specs.laws.RowsInUse.{count-nodes, node_front_lem}
use Rattle.rules.specs.Requests.{asked, creating, store_length}
use Rattle.path_calls.specs.Judged.{place_for}
use Rattle.call_reader.specs.Meaning.{made_by}
use Rattle.guard_state.specs.laws.LoadedLaws.{counts_fit, tables-loaded}
use Rattle.guard_state.specs.State.{state_of, gathered_none}
use Rattle.guard_state.specs.Waits.{waits}
use Rattle.path_calls.specs.laws.BegunLaws.{request_most}
use Rattle.creations.specs.laws.NewLaws.{new_kind, place_made, new-named, new_refused, new_sends}
use lib.ListN.{drop, length}
use Rattle.guard_state.specs.declared.Guard.{Guard}
use Rattle.creations.proofs.begin_new.Goals as goal

pub judge_new-requires : goal.judge_new-requires
judge_new-requires c =
    let f = counts_fit c.args.m.now _ c.load-g.ensures in
    let e = ap (λ (x : Guard). x.nodes) c.load-g.ensures in
    (omega (arith, e, c.requires.2), f.0, omega arith)

pub send_new-requires : goal.send_new-requires
unfolding tables_in
send_new-requires c =
    let a = c.args in
    let f = counts_fit a.m.now _ c.load-g.ensures in
    let n = count-nodes a.m.now c.load-g.result.nodes f.0 in
    let e0 = ap (λ (x : Guard). x.nodes) c.load-g.ensures in
    let t = tables_in c.load-g.result.nodes c.load-g.result.opens (mem_of a.m.now) in
    let k = new_kind a.kind c.requires.0 c.requires.1 in
    let p = new-named a.path.now a.kind a.mode k t _ _ _ (c.judge_new.ensures c.load-g.result.opens
    a.mode ∙ place_made t a.path.now a.mode k) (ap numbered c.in-Ok.is)
    (omega (arith, n, e0, c.requires.2)) in
    (omega (arith, n, f.0, p.within), p.start, p.name-short, p.short, omega arith, omega arith)

pub returns-in-Ok : goal.returns-in-Ok
unfolding tables_in store_length
returns-in-Ok c =
    let a = c.args in
    let f = counts_fit a.m.now _ c.load-g.ensures in
    let n = count-nodes a.m.now c.load-g.result.nodes f.0 in
    let e0 = ap (λ (x : Guard). x.nodes) c.load-g.ensures in
    let t = tables_in c.load-g.result.nodes c.load-g.result.opens (mem_of a.m.now) in
    let k = new_kind a.kind c.requires.0 c.requires.1 in
    let e = c.judge_new.ensures c.load-g.result.opens a.mode ∙ place_made t a.path.now a.mode k in
    let p = new-named a.path.now a.kind a.mode k t _ _ _ e (ap numbered c.in-Ok.is)
    (omega (arith, n, e0, c.requires.2)) in
    let r = request_most a.kind a.mode a.path.now in (
      λ q sha w h.
          let u = tables-loaded a.m.now _ c.load-g.ensures q in
          new_sends a.path.now a.kind a.mode k q (state_of q a.m.now) _ _ _ _ a.request.now _ _
          (omega (arith, n, e0, c.requires.2, ap (λ (x : Tables). length x.nodes) u))
          (e ∙ ap (λ (x : Tables). place_for x a.path.now (made_by a.kind a.mode)) u)
          (ap numbered c.in-Ok.is)
          (c.send_new.ensures.0 q
          ∙ ap (λ (i : ℕ). waits q (state_of q a.m.now)
          (asked (creating i a.kind a.mode (drop c.in-Ok.place.start a.path.now))) gathered_none)
          (sym (ap (λ x. x.id) (node_front_lem c.load-g.result.nodes (mem_of a.m.now).nodes c.in-Ok.place.parent
          (omega (arith, n, p.within)))) ∙ ap (λ (x : Tables). (node_at x.nodes c.in-Ok.place.parent).id) u))
          c.send_new.ensures.2 c.send_new.ensures.3 (omega (arith, r, p.short)),
      omega arith,
    )

pub returns-in-Err : goal.returns-in-Err
returns-in-Err c =
    let a = c.args in
    let t = tables_in c.load-g.result.nodes c.load-g.result.opens (mem_of a.m.now) in
    let k = new_kind a.kind c.requires.0 c.requires.1 in (
      λ q sha w h.
          new_refused a.path.now a.kind a.mode k q (state_of q a.m.now) _ a.m.now a.request.now
          (ap numbered (sym c.in-Err.is) ∙ c.judge_new.ensures c.load-g.result.opens a.mode
          ∙ place_made t a.path.now a.mode k
          ∙ ap (λ (x : Tables). place_for x a.path.now (made_by a.kind a.mode))
          (tables-loaded a.m.now _ c.load-g.ensures q)) refl,
      refl,
    )
