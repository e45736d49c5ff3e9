-- `renames::accept_rename` meets its contract. Assumes nothing.
use native.Mathlib.Omega.{arith}
use mathlib.Core.Path.{◌≡◌, refl, ap, sym, ◌∙◌}
use lib.ListN.{take, set}
use Rattle.lists.specs.Parts.{part}
use Rattle.filesystem.specs.Tables.{node_at, with_place, renamed}
use Rattle.memory.specs.Layout.{mem_of, with_nodes}
use Rattle.memory.specs.Records.{node_of}
use Rattle.rules.specs.Rules.{reply_action}
use Rattle.guard_state.specs.declared.Guard.{Guard}
use Rattle.guard_state.specs.State.{numbers_of, state_of, staged_bytes}
use Rattle.guard_state.specs.laws.PendingLaws.{rename_pending}
use Rattle.replies.specs.laws.TakenLaws.{answer-stops, answer_finishes}
use Rattle.renames.specs.laws.RenamedLaws.{renaming_reason, rename-ends, rename_premises}
use Rattle.renames.proofs.accept_rename.Goals as goal

pub returns-in-Err : goal.returns-in-Err
returns-in-Err c =
    let a = c.args in (
      λ d sha w held q.
          answer-stops d w (state_of d a.m.now) a.reply.now _
          (rename_pending d a.m.now c.requires.0) refl _ _ q
          (c.in-Err.ensures
          ∙ sym (renaming_reason (state_of d a.m.now).skeleton.tables a.reply.now _ _ _)) refl,
      refl,
    )

pub returns-then-g-gt-NAME_BYTES : goal.returns-then-g-gt-NAME_BYTES
returns-then-g-gt-NAME_BYTES c =
    let a = c.args in
    let n : c.load-g.result.bytes ≡ (numbers_of (mem_of a.m.now).head).bytes = ap (λ (x : Guard). x.bytes)
    c.load-g.ensures in (
      λ d sha w held q. absurd (omega (
        arith,
        n,
        (rename_premises d a.m.now held c.requires.1 c.requires.0).1,
        c.if-g-gt-NAME_BYTES.true,
      )),
      refl,
    )

pub node_id-requires : goal.node_id-requires
unfolding numbers_of
node_id-requires c =
    let k : c.load-g.result.node ≡ (numbers_of
    (mem_of c.args.m.now).head).node = ap (λ (x : Guard). x.node)
    c.load-g.ensures in
    (omega (arith, k), omega arith)

pub node_kind-requires : goal.node_kind-requires
unfolding numbers_of
node_kind-requires c =
    let k : c.load-g.result.node ≡ (numbers_of
    (mem_of c.args.m.now).head).node = ap (λ (x : Guard). x.node)
    c.load-g.ensures in
    (omega (arith, k), omega arith)

pub node_mode-requires : goal.node_mode-requires
unfolding numbers_of
node_mode-requires c =
    let k : c.load-g.result.node ≡ (numbers_of
    (mem_of c.args.m.now).head).node = ap (λ (x : Guard). x.node)
    c.load-g.ensures in
    (omega (arith, k), omega arith)

pub node_size-requires : goal.node_size-requires
unfolding numbers_of
node_size-requires c =
    let k : c.load-g.result.node ≡ (numbers_of
    (mem_of c.args.m.now).head).node = ap (λ (x : Guard). x.node)
    c.load-g.ensures in
    (omega (arith, k), omega arith)

pub put_node-requires : goal.put_node-requires
unfolding numbers_of
put_node-requires c =
    let k : c.load-g.result.node ≡ (numbers_of
    (mem_of c.args.m.now).head).node = ap (λ (x : Guard). x.node)
    c.load-g.ensures in
    (omega (arith, k), omega arith)

pub returns : goal.returns
unfolding reply_action renamed part staged_bytes
returns c =
    let a = c.args in
    let ns = (mem_of a.m.now).nodes in
    let n = numbers_of (mem_of a.m.now).head in
    let name = take n.bytes (mem_of a.m.now).staged in
    let k : c.load-g.result.node ≡ n.node = ap (λ (x : Guard). x.node) c.load-g.ensures in
    let p : c.load-g.result.parent ≡ n.parent = ap (λ (x : Guard). x.parent) c.load-g.ensures in
    let s : c.staged.result.now ≡ name = c.staged.ensures.0
    ∙ ap (λ (x : Guard). take x.bytes (mem_of a.m.now).staged) c.load-g.ensures in
    let row : node_of c.node_row-row.result ≡ with_place n.parent name (node_at ns n.node) =
    c.node_row-row.ensures ∙ (λ i. record {
      id = (c.node_id.ensures ∙ ap (λ x. (node_at ns x).id) k) i;
      parent = p i;
      kind = (c.node_kind.ensures ∙ ap (λ x. (node_at ns x).kind) k) i;
      mode = (c.node_mode.ensures ∙ ap (λ x. (node_at ns x).mode) k) i;
      size = (c.node_size.ensures ∙ ap (λ x. (node_at ns x).size) k) i;
      name = s i;
    }) in (
      λ d sha e held q.
          let fits = rename_premises d a.m.now held c.requires.1 c.requires.0 in
          answer_finishes d e (state_of d a.m.now) a.reply.now _
          (rename_pending d a.m.now c.requires.0) refl _ 0 _ q
          (c.in_default.ensures
          ∙ sym (renaming_reason (state_of d a.m.now).skeleton.tables a.reply.now _ _ _)) refl
          (c.finish.ensures.0 d
          ∙ rename-ends d a.m.now _ n.node n.parent name
          (c.put_node.ensures.0
          ∙ (λ i. with_nodes (set ns (k i) (row i)) (mem_of a.m.now))) fits.0),
      omega arith,
    )
