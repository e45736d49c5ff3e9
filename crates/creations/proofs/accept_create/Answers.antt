-- `creations::accept_create` meets its contract. Assumes nothing.
use native.Mathlib.Omega.{arith}
use native.Mathlib.Nat.{mod-eq_of_lt}
use mathlib.Core.Path.{◌≡◌, refl, ap, ap₂, sym, ◌∙◌}
use mathlib.Core.List.{List, [], ◌∷◌, ◌++◌}
use Prim.Native.Nat.{ℕ, ◌%◌}
use lib.ListN.{take}
use Rattle.lists.specs.LittleEndian.{decode}
use Rattle.lists.specs.Parts.{part}
use Rattle.filesystem.specs.Tables.{ID_BYTES, Node, Tables, new_node}
use Rattle.memory.specs.Layout.{mem_of}
use Rattle.tables.specs.View.{View, tables_in}
use Rattle.rules.specs.Requests.{asked, creating}
use Rattle.rules.specs.Rules.{add, reply_action, full_action}
use Rattle.replies.specs.Judged.{reason_for}
use Rattle.replies.specs.laws.JudgedLaws.{whole_part}
use Rattle.guard_state.specs.declared.Guard.{Guard}
use Rattle.guard_state.specs.State.{numbers_of, state_of}
use Rattle.guard_state.specs.Waits.{ends, resting_state}
use Rattle.guard_state.specs.laws.LoadedLaws.{counts_fit, tables-loaded}
use Rattle.guard_state.specs.laws.PendingLaws.{create_pending}
use Rattle.replies.specs.laws.TakenLaws.{answer-stops, answer-gives_up, answer_adds, creating_long}
use Rattle.creations.specs.laws.CreatedLaws.{create-ends, create_premises}
use Rattle.creations.proofs.accept_create.Goals as goal

pub returns-then-is_full : goal.returns-then-is_full
returns-then-is_full c =
    let a = c.args in (
      λ d sha w held q. answer-gives_up d w (state_of d a.m.now) a.reply.now _
          (create_pending d a.m.now c.requires.0)
          (sym c.is_full.ensures ∙ c.if-is_full.true) (unfold full_action in refl) _ _ q q
          (c.give_up.ensures.sends d q),
      omega arith,
    )

pub judge_id-requires : goal.judge_id-requires
judge_id-requires c =
    let a = c.args in
    ((counts_fit a.m.now _ c.load-g.ensures).0, omega arith)

pub returns-in-Err : goal.returns-in-Err
returns-in-Err c =
    let a = c.args in
    let n = numbers_of (mem_of a.m.now).head in
    let s = take n.bytes (mem_of a.m.now).staged in (
      λ d sha w held q.
          answer-stops d w (state_of d a.m.now) a.reply.now _ (create_pending d a.m.now c.requires.0)
          (sym c.is_full.ensures ∙ c.if-is_full.false) _ _ q
          (c.in-Err.ensures n.parent n.kind n.mode s c.load-g.result.opens
          ∙ ap (λ (x : Tables). reason_for x a.reply.now (asked (creating n.parent n.kind n.mode s)))
          (tables-loaded a.m.now _ c.load-g.ensures d)) refl,
      refl,
    )

pub returns-then-nodes-ge-NODES : goal.returns-then-nodes-ge-NODES
returns-then-nodes-ge-NODES c =
    let a = c.args in
    let n : c.load-g.result.nodes ≡ (numbers_of (mem_of a.m.now).head).nodes = ap (λ (x : Guard). x.nodes)
    c.load-g.ensures in (
      λ d sha w held q. absurd (omega (
        arith,
        n,
        (create_premises d a.m.now held c.requires.1 c.requires.0).0,
        c.if-nodes-ge-NODES.true,
      )),
      refl,
    )

pub returns-then-g-gt-NAME_BYTES : goal.returns-then-g-gt-NAME_BYTES
returns-then-g-gt-NAME_BYTES c =
    let a = c.args in
    let n : c.load-g.result.bytes ≡ (numbers_of (mem_of a.m.now).head).bytes = ap (λ (x : Guard). x.bytes)
    c.load-g.ensures in (
      λ d sha w held q. absurd (omega (
        arith,
        n,
        (create_premises d a.m.now held c.requires.1 c.requires.0).1,
        c.if-g-gt-NAME_BYTES.true,
      )),
      refl,
    )

pub number_at-id-requires : goal.number_at-id-requires
number_at-id-requires c =
    let a = c.args in
    let l = creating_long (tables_in c.load-g.result.nodes 0 (mem_of a.m.now)) a.reply.now 0 0 0 []
    (c.in_default.ensures 0 0 0 [] 0) in
    (omega (arith, l), omega arith)

pub rest-requires : goal.rest-requires
rest-requires c =
    let a = c.args in
    let f = counts_fit a.m.now _ c.load-g.ensures in
    (omega (arith, c.if-nodes-ge-NODES.false), f.1, omega arith)

pub returns : goal.returns
unfolding reply_action part
returns c =
    let a = c.args in
    let n = numbers_of (mem_of a.m.now).head in
    let name = take n.bytes (mem_of a.m.now).staged in (
      λ d sha e held q.
          let fits = create_premises d a.m.now held c.requires.1 c.requires.0 in
          let s = state_of d a.m.now in
          let h : 0 ≡ reason_for s.skeleton.tables a.reply.now
          (asked (creating n.parent n.kind n.mode name)) =
          c.in_default.ensures n.parent n.kind n.mode name c.load-g.result.opens
          ∙ ap (λ (t : Tables). reason_for t a.reply.now (asked (creating n.parent n.kind n.mode name)))
          (tables-loaded a.m.now _ c.load-g.ensures d) in
          let t : c.number_at-id.result ≡ decode a.reply.now =
          c.number_at-id.ensures
          ∙ ap decode (whole_part a.reply.now ID_BYTES (creating_long s.skeleton.tables a.reply.now
          n.parent n.kind n.mode name h)) in
          let p = c.node_row-row.ensures
          ∙ ap (λ (k : Guard). new_node c.number_at-id.result k.parent (k.kind % 256) (k.mode % 256)
          c.staged.result.now) c.load-g.ensures
          ∙ ap₂ (λ (i k : ℕ). new_node c.number_at-id.result n.parent i k c.staged.result.now)
          (mod-eq_of_lt fits.2) (mod-eq_of_lt fits.3)
          ∙ ap (λ (i : List ℕ). new_node c.number_at-id.result n.parent n.kind n.mode i) (c.staged.ensures.0
          ∙ ap (λ (k : Guard). take k.bytes (mem_of a.m.now).staged) c.load-g.ensures) in
          answer_adds d e s a.reply.now _ (create_pending d a.m.now c.requires.0)
          (sym c.is_full.ensures ∙ c.if-is_full.false)
          (new_node c.number_at-id.result n.parent n.kind n.mode name) _ q h
          (ap (λ (i : ℕ). add (new_node i n.parent n.kind n.mode name)) (sym t))
          (c.rest.ensures.0 d
          ∙ ap (λ (i : View). resting_state d i) (c.add_node.ensures.by_index c.load-g.result.opens)
          ∙ create-ends d a.m.now _ c.load-g.ensures _
          ∙ ap (λ (i : Node). ends d s (record {
            nodes = s.skeleton.tables.nodes
                ++ (i ∷ []);
            opens = s.skeleton.tables.opens;
          }) (s.contents ++ ([] ∷ []))) p),
      omega arith,
    )
