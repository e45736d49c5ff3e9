-- `listings::accept_listing` meets its contract. Assumes nothing.
use native.Mathlib.Omega.{arith}
use mathlib.Core.Path.{◌≡◌, refl, ap, sym, ◌∙◌}
use Prim.Native.Nat.{ℕ}
use Rattle.lists.specs.All.{Bytes}
use Rattle.lists.specs.EqualLaws.{bytes_of}
use Rattle.memory.specs.Layout.{mem_of}
use Rattle.rules.specs.Requests.{asked, listing}
use Rattle.rules.specs.Rules.{finish, reply_action}
use Rattle.replies.specs.Judged.{reason_for}
use Rattle.guard_state.specs.declared.Guard.{Guard}
use Rattle.guard_state.specs.State.{numbers_of, state_of}
use Rattle.guard_state.specs.laws.LoadedLaws.{counts_fit}
use Rattle.guard_state.specs.laws.PendingLaws.{listing_pending}
use Rattle.replies.specs.laws.TakenLaws.{answer_most, stop_fills, answer_fills, listing_long}
use Rattle.listings.specs.laws.ListedLaws.{listing_reason, listing_count, listing_node, listing_premises}
use Rattle.listings.proofs.accept_listing.Goals as goal

pub node_id-id-requires : goal.node_id-id-requires
unfolding numbers_of
node_id-id-requires c =
    let a = c.args in
    let k : c.load-g.result.node ≡ (numbers_of (mem_of a.m.now).head).node = ap (λ (x : Guard). x.node)
    c.load-g.ensures in
    (omega (arith, k), omega arith)

pub judge_listing-requires : goal.judge_listing-requires
judge_listing-requires c =
    let a = c.args in
    ((counts_fit a.m.now _ c.load-g.ensures).0, omega arith)

pub returns-in-Err : goal.returns-in-Err
returns-in-Err c =
    let a = c.args in (
      λ d sha w held f.
          let fits = listing_premises d a.m.now held w c.requires.0 in
          stop_fills d w (state_of d a.m.now) a.reply.now _ (listing_pending d a.m.now c.requires.0) refl _ _
          a.answer.now
          (listing_reason d a.m.now _ c.load-g.ensures fits.1 _ c.node_id-id.ensures _ a.reply.now
          fits.0 c.in-Err.ensures) refl,
      refl,
    )

pub returns-then-answer-reply : goal.returns-then-answer-reply
returns-then-answer-reply c =
    let a = c.args in (
      λ d sha w held f.
          let fits = listing_premises d a.m.now held w c.requires.0 in
          let t = (state_of d a.m.now).skeleton.tables in
          let n = (numbers_of (mem_of a.m.now).head).node in
          let h : 0 ≡ reason_for t a.reply.now (asked (listing n)) =
          listing_reason d a.m.now _ c.load-g.ensures fits.1 _
          c.node_id-id.ensures _ a.reply.now fits.0 c.in_default.ensures in
          let b : Bytes a.reply.now = bytes_of a.reply.now (λ x. omega (arith, c.type_inv.reply x))
          in
          let y = listing_long t a.reply.now n fits.0 (listing_node d a.m.now _ c.load-g.ensures fits.1
          _ c.node_id-id.ensures) b h in
          absurd (omega (arith, answer_most d w, y, f, c.if-answer-reply.true)),
      refl,
    )

pub count_children-count-requires : goal.count_children-count-requires
count_children-count-requires c =
    let a = c.args in
    ((counts_fit a.m.now _ c.load-g.ensures).0, omega arith)

pub returns : goal.returns
unfolding reply_action
returns c =
    let a = c.args in (
      λ d sha w held u.
          let fits = listing_premises d a.m.now held w c.requires.0 in
          let s = state_of d a.m.now in
          let n = (numbers_of (mem_of a.m.now).head).node in
          let h : 0 ≡ reason_for s.skeleton.tables a.reply.now (asked (listing n)) =
          listing_reason d a.m.now _ c.load-g.ensures fits.1 _
          c.node_id-id.ensures _ a.reply.now fits.0 c.in_default.ensures in
          let q = c.count_children-count.ensures ∙ listing_count d a.m.now _ c.load-g.ensures fits.1 _
          c.node_id-id.ensures in
          answer_fills d w s a.reply.now _ (listing_pending d a.m.now c.requires.0) refl s.skeleton.tables
          c.count_children-count.result _ a.reply.now _ a.answer.now _
          h (ap (λ (k : ℕ). finish s.skeleton.tables k a.reply.now) (sym q)) (c.finish.ensures.0 d)
          c.put.ensures refl (omega (arith, c.if-answer-reply.false)),
      omega arith,
    )
