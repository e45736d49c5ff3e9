-- `opens::accept_open` meets its contract. Assumes nothing.
use native.Mathlib.Omega.{arith}
use native.Mathlib.Nat.{mod-eq_of_lt}
use mathlib.Core.Path.{◌≡◌, refl, ap, ap₂, sym, ◌∙◌}
use mathlib.Core.List.{[], ◌∷◌, ◌++◌}
use Prim.Native.Nat.{ℕ, ◌%◌}
use Rattle.lists.specs.LittleEndian.{decode}
use Rattle.filesystem.specs.Tables.{OpenFile, Tables, node_at, new_open_file}
use Rattle.memory.specs.Layout.{mem_of}
use Rattle.tables.specs.View.{View, tables_in}
use Rattle.tables.specs.laws.RowsInUse.{node_front_lem}
use Rattle.rules.specs.Requests.{asked, opening}
use Rattle.rules.specs.Rules.{finish, reply_action}
use Rattle.replies.specs.Judged.{reason_for}
use Rattle.replies.specs.laws.JudgedLaws.{whole_part}
use Rattle.guard_state.specs.declared.Guard.{Guard}
use Rattle.guard_state.specs.State.{numbers_of, state_of}
use Rattle.guard_state.specs.Waits.{ends, resting_state}
use Rattle.guard_state.specs.laws.LoadedLaws.{counts_fit, tables-loaded}
use Rattle.guard_state.specs.laws.PendingLaws.{open_pending}
use Rattle.replies.specs.laws.TakenLaws.{answer-stops, answer_finishes, opening_long}
use Rattle.opens.specs.laws.OpenedLaws.{open_ends, open_premises}
use Rattle.opens.proofs.accept_open.Goals as goal

pub judge_descriptor-requires : goal.judge_descriptor-requires
judge_descriptor-requires c =
    let a = c.args in
    ((counts_fit a.m.now _ c.load-g.ensures).1, omega arith)

pub returns-in-Err : goal.returns-in-Err
returns-in-Err c =
    let a = c.args in
    let n = numbers_of (mem_of a.m.now).head in (
      λ d sha w held q.
          answer-stops d w (state_of d a.m.now) a.reply.now _ (open_pending d a.m.now c.requires.0) refl _ _ q
          (c.in-Err.ensures n.node n.rights c.load-g.result.nodes
          ∙ ap (λ (x : Tables). reason_for x a.reply.now (asked (opening n.node n.rights)))
          (tables-loaded a.m.now _ c.load-g.ensures d)) refl,
      refl,
    )

pub returns-then-o-ge-OPEN_ROWS : goal.returns-then-o-ge-OPEN_ROWS
returns-then-o-ge-OPEN_ROWS c =
    let a = c.args in
    let n : c.load-g.result.opens ≡ (numbers_of (mem_of a.m.now).head).opens = ap (λ (x : Guard). x.opens)
    c.load-g.ensures in
    (λ d sha w held q. absurd (omega (arith, n, (open_premises d a.m.now held c.requires.0).1, c.if-o-ge-OPEN_ROWS.true)), refl)

pub node_id-id-requires : goal.node_id-id-requires
unfolding numbers_of
node_id-id-requires c =
    let a = c.args in
    let k : c.load-g.result.node ≡ (numbers_of (mem_of a.m.now).head).node = ap (λ (x : Guard). x.node)
    c.load-g.ensures in
    (omega (arith, k), omega arith)

pub u32_at-requires : goal.u32_at-requires
u32_at-requires c =
    let a = c.args in
    let l = opening_long (tables_in 0 c.load-g.result.opens (mem_of a.m.now)) a.reply.now 0 0
    (c.in_default.ensures 0 0 0) in
    omega (arith, l)

pub rest-requires : goal.rest-requires
rest-requires c =
    let a = c.args in
    let f = counts_fit a.m.now _ c.load-g.ensures in
    (f.0, omega (arith, c.if-o-ge-OPEN_ROWS.false), omega arith)

pub returns : goal.returns
unfolding reply_action tables_in
returns c =
    let a = c.args in
    let n = numbers_of (mem_of a.m.now).head in
    let k : c.load-g.result.node ≡ n.node = ap (λ (y : Guard). y.node) c.load-g.ensures in
    let z : c.load-g.result.rights ≡ n.rights = ap (λ (y : Guard). y.rights) c.load-g.ensures in
    let m : c.load-g.result.nodes ≡ n.nodes = ap (λ (y : Guard). y.nodes) c.load-g.ensures in (
      λ d sha e held q.
          let fits = open_premises d a.m.now held c.requires.0 in
          let s = state_of d a.m.now in
          let y = tables-loaded a.m.now _ c.load-g.ensures d in
          let h : 0 ≡ reason_for s.skeleton.tables a.reply.now (asked (opening n.node n.rights)) =
          c.in_default.ensures n.node n.rights
          c.load-g.result.nodes
          ∙ ap (λ (t : Tables). reason_for t a.reply.now (asked (opening n.node n.rights))) y in
          let p : c.node_id-id.result ≡ (node_at s.skeleton.tables.nodes n.node).id =
          c.node_id-id.ensures ∙ ap (λ (f : ℕ). (node_at (mem_of a.m.now).nodes f).id) k
          ∙ sym (ap (λ f. f.id) (node_front_lem c.load-g.result.nodes (mem_of a.m.now).nodes n.node
          (omega (arith, m, fits.0)))) ∙ ap (λ (t : Tables). (node_at t.nodes n.node).id) y in
          let t : c.u32_at.result ≡ decode a.reply.now =
          c.u32_at.ensures ∙ ap decode
          (whole_part a.reply.now 4 (opening_long s.skeleton.tables a.reply.now n.node n.rights
          h)) in
          let f = c.open_row-row.ensures.0
          ∙ ap₂ (λ (i j : ℕ). new_open_file i j (c.load-g.result.rights % 256)) p t
          ∙ ap (λ (i : ℕ). new_open_file (node_at s.skeleton.tables.nodes n.node).id (decode a.reply.now) i)
          (ap (λ (i : ℕ). i % 256) z ∙ mod-eq_of_lt fits.2) in
          let file = new_open_file (node_at s.skeleton.tables.nodes n.node).id (decode a.reply.now)
          n.rights in
          let after : Tables = record {
            nodes = s.skeleton.tables.nodes;
            opens = s.skeleton.tables.opens
                ++ (file ∷ []);
          } in
          answer_finishes d e s a.reply.now _ (open_pending d a.m.now c.requires.0) refl after
          c.node_id-id.result _
          q h (ap (λ (v : ℕ). finish after v []) (sym p))
          (c.rest.ensures.0 d
          ∙ ap (λ (v : View). resting_state d v) (c.add_open.ensures.by_index c.load-g.result.nodes)
          ∙ open_ends d a.m.now _ c.load-g.ensures _
          ∙ ap (λ (v : OpenFile). ends d s
          (record { nodes = s.skeleton.tables.nodes; opens = s.skeleton.tables.opens ++ (v ∷ []) })
          s.contents) f),
      omega arith,
    )
