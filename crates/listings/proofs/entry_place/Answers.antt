-- `listings::entry_place` meets its contract. Assumes nothing.
use native.Mathlib.Omega.{arith}
use Prim.Native.Nat.{ℕ}
use mathlib.Core.Path.{◌≡◌, refl, sym, ap, ◌∙◌}
use mathlib.Core.List.{List}
use borrow.Author.Rules.{rules}
use lib.ListN.{length, take}
use Rattle.memory.specs.Layout.{mem_of}
use Rattle.tables.specs.Found.{found}
use Rattle.tables.specs.laws.FoundLaws.{found_none, found_some, found_at, found_behind}
use Rattle.tables.specs.laws.RowsInUse.{count-nodes, node_front_lem}
use Rattle.filesystem.specs.Tables.{ID_BYTES, Node, node_at, find_id, is_child}
use Rattle.listings.specs.Listing.{entry_at}
use Rattle.listings.specs.laws.ListingLaws.{end-front, entry-name, place_gone, place_other_kind, place_no_child}
use Rattle.listings.specs.laws.ListingLaws.{place_same}
use Rattle.listings.proofs.entry_place.Goals as goal

pub number_at-entry_id-requires : goal.number_at-entry_id-requires
number_at-entry_id-requires c = let f = end-front ID_BYTES c.args.reply.now c.args.at in search rules

pub returns-in_err-k-clause-place : goal.returns-in_err-k-clause-place
unfolding entry_at
returns-in_err-k-clause-place c v =
    let a = c.args in
    let s = a.reply.now in
    let ns = take a.n (mem_of a.m.now).nodes in
    let e : length ns ≡ a.n = count-nodes a.m.now a.n (omega arith) in
    let x = entry_at ID_BYTES s a.at in
    let h = found_none _ _ (c.in_err-k.ensures.place ID_BYTES v) in
    let i = ap (find_id ns) c.number_at-entry_id.ensures in
    let p = place_gone ns a.id x _ refl (omega (arith, h, i)) in
    c.from_residual.ensures ∙ sym (found_behind _ _ (omega (arith, p)))

pub overflow_add-at : goal.overflow_add-at
overflow_add-at c = let f = end-front ID_BYTES c.args.reply.now c.args.at in omega arith

pub bounds-reply-at : goal.bounds-reply-at
bounds-reply-at c = let f = end-front ID_BYTES c.args.reply.now c.args.at in omega arith

pub returns-then-reply-at-clause-place : goal.returns-then-reply-at-clause-place
unfolding entry_at
returns-then-reply-at-clause-place c v =
    let a = c.args in
    let s = a.reply.now in
    let ns = take a.n (mem_of a.m.now).nodes in
    let e : length ns ≡ a.n = count-nodes a.m.now a.n (omega arith) in
    let x = entry_at ID_BYTES s a.at in
    let k = c.in_ok-k.k in
    let (q, l) = found_some _ _ (c.in_ok-k.ensures.place ID_BYTES v) in
    let named : k ≡ find_id ns x.0 = q ∙ ap (find_id ns) c.number_at-entry_id.ensures in
    let g = node_front_lem a.n (mem_of a.m.now).nodes k (omega arith) in
    let p = place_other_kind ns a.id x k named (λ q. c.if-reply-at.true (q ∙ ap (λ (y : Node). y.kind) g
    ∙ sym c.node_kind.ensures)) in
    sym (found_behind _ _ (omega (arith, p)))

pub overflow_add-start : goal.overflow_add-start
overflow_add-start c = let f = end-front ID_BYTES c.args.reply.now c.args.at in omega arith

pub slice_bounds-is_child-count : goal.slice_bounds-is_child-count
slice_bounds-is_child-count c = let f = end-front ID_BYTES c.args.reply.now c.args.at in omega arith

pub slice_bounds-is_child-start : goal.slice_bounds-is_child-start
slice_bounds-is_child-start c = let f = end-front ID_BYTES c.args.reply.now c.args.at in omega arith

pub returns-then-not-is_child-clause-place : goal.returns-then-not-is_child-clause-place
unfolding entry_at
returns-then-not-is_child-clause-place c v =
    let a = c.args in
    let s = a.reply.now in
    let ns = take a.n (mem_of a.m.now).nodes in
    let e : length ns ≡ a.n = count-nodes a.m.now a.n (omega arith) in
    let x = entry_at ID_BYTES s a.at in
    let k = c.in_ok-k.k in
    let (q, l) = found_some _ _ (c.in_ok-k.ensures.place ID_BYTES v) in
    let named : k ≡ find_id ns x.0 = q ∙ ap (find_id ns) c.number_at-entry_id.ensures in
    let g = node_front_lem a.n (mem_of a.m.now).nodes k (omega arith) in
    let f = end-front ID_BYTES s a.at in
    let y : c.is_child.result ≡ is_child a.id x.1.1 (node_at ns k) =
    c.is_child.ensures ∙ ap (λ (t : List ℕ). is_child a.id t (node_at (mem_of a.m.now).nodes k))
    (entry-name ID_BYTES s a.at _ a.end (omega arith) (omega arith))
    ∙ ap (is_child a.id x.1.1) (sym g) in
    let p = place_no_child ns a.id x k named (sym y ∙ c.if-not-is_child.true) in
    sym (found_behind _ _ (omega (arith, p)))

pub returns-clause-place : goal.returns-clause-place
unfolding entry_at
returns-clause-place c v =
    let a = c.args in
    let s = a.reply.now in
    let ns = take a.n (mem_of a.m.now).nodes in
    let e : length ns ≡ a.n = count-nodes a.m.now a.n (omega arith) in
    let x = entry_at ID_BYTES s a.at in
    let k = c.in_ok-k.k in
    let (q, l) = found_some _ _ (c.in_ok-k.ensures.place ID_BYTES v) in
    let named : k ≡ find_id ns x.0 = q ∙ ap (find_id ns) c.number_at-entry_id.ensures in
    let g = node_front_lem a.n (mem_of a.m.now).nodes k (omega arith) in
    let f = end-front ID_BYTES s a.at in
    let y : c.is_child.result ≡ is_child a.id x.1.1 (node_at ns k) =
    c.is_child.ensures ∙ ap (λ (t : List ℕ). is_child a.id t (node_at (mem_of a.m.now).nodes k))
    (entry-name ID_BYTES s a.at _ a.end (omega arith) (omega arith))
    ∙ ap (is_child a.id x.1.1) (sym g) in
    let h : x.1.0 ≡ (node_at ns k).kind = c.if-reply-at.false
    ∙ c.node_kind.ensures ∙ ap (λ (y : Node). y.kind) (sym g) in
    let p = place_same ns a.id x k named (omega arith) h (sym y ∙ c.if-not-is_child.false) in
    sym (found_at _ _ l) ∙ ap (found a.n) p
