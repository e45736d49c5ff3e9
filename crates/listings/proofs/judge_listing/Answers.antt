-- `listings::judge_listing` meets its contract. The loop's invariant: the children without a mark are to be found in
-- what remains of the reply, and the count has the others. The measure is what remains. Assumes nothing.
use native.Mathlib.Omega.{arith}
use mathlib.Core.Path.{◌≡◌, refl, sym, ◌∙◌}
use lib.ListN.{length, take, replicate, length-set}
use Rattle.memory.specs.Layout.{mem_of}
use Rattle.tables.specs.View.{tables_in}
use Rattle.tables.specs.laws.FoundLaws.{found_none, found_some}
use Rattle.tables.specs.laws.RowsInUse.{count-nodes}
use Rattle.filesystem.specs.Tables.{ID_BYTES, NODES}
use Rattle.lists.specs.Cells.{zeros}
use Rattle.std.specs.Prelude.{true}
use Rattle.filesystem.specs.Image.{sound_nodes}
use Rattle.listings.specs.Listing.{entry_at, entry_place}
use Rattle.listings.specs.laws.ListingLaws.{left-first, count-first, left-next, count_next}
use Rattle.listings.specs.laws.ListingLaws.{cut-end, there-end, end-front, listing_cut, listing_missing}
use Rattle.listings.specs.laws.ListingLaws.{listing_twice, listing_few, listing_whole, listing_stops}
use Rattle.listings.specs.laws.ListingLaws.{listing_passes}
use Rattle.listings.proofs.judge_listing.Goals as goal

pub loop-at-init : goal.loop-at-init
loop-at-init c =
    let a = c.args in
    let ns = take a.n (mem_of a.m.now).nodes in (
      omega arith,
      omega arith,
      refl,
      λ v. count-first ns a.id a.reply.now (replicate NODES 0) (zeros NODES),
      left-first ns a.id a.reply.now (replicate NODES 0) (zeros NODES),
    )

pub returns-in_default : goal.returns-in_default
unfolding tables_in
returns-in_default c v k o q =
    let a = c.args in
    let l = c.loop-at in
    let s = a.reply.now in
    let ns = take a.n (mem_of a.m.now).nodes in
    let e : length ns ≡ a.n = count-nodes a.m.now a.n (omega arith) in
    let (i, j, z, t, g) = l.invariant in
    sym (listing_stops (tables_in a.n o (mem_of a.m.now)) s k a.id q (listing_cut ns a.id s l.seen l.at
    g (omega arith) (cut-end ID_BYTES s l.at c.in_default.ensures) v))

pub entry_place-requires : goal.entry_place-requires
entry_place-requires c =
    let (p, q) = there-end ID_BYTES c.args.reply.now c.loop-at.at _ c.in-Some.ensures in
    (omega arith, omega arith, p, omega arith)

pub returns-in_default-entry_place : goal.returns-in_default-entry_place
unfolding tables_in
returns-in_default-entry_place c v k o q =
    let a = c.args in
    let l = c.loop-at in
    let s = a.reply.now in
    let ns = take a.n (mem_of a.m.now).nodes in
    let e : length ns ≡ a.n = count-nodes a.m.now a.n (omega arith) in
    let (i, j, z, t, g) = l.invariant in
    let (p, f) = there-end ID_BYTES s l.at _ c.in-Some.ensures in
    let h = found_none _ _ (c.in_default-entry_place.ensures.place v) in
    sym (listing_stops (tables_in a.n o (mem_of a.m.now)) s k a.id q (listing_missing ns a.id s l.seen
    l.at g (omega arith) f (omega arith) v))

pub returns-then-seen-k-ne0 : goal.returns-then-seen-k-ne0
unfolding tables_in
returns-then-seen-k-ne0 c v k o q =
    let a = c.args in
    let l = c.loop-at in
    let s = a.reply.now in
    let ns = take a.n (mem_of a.m.now).nodes in
    let e : length ns ≡ a.n = count-nodes a.m.now a.n (omega arith) in
    let (i, j, z, t, g) = l.invariant in
    let (p, f) = there-end ID_BYTES s l.at _ c.in-Some.ensures in
    sym (listing_stops (tables_in a.n o (mem_of a.m.now)) s k a.id q (listing_twice ns a.id s l.seen
    l.at g (omega arith) f _ (found_some _ _ (c.in-Some-entry_place.ensures.place v)).0
    (omega (arith, c.in-Some-entry_place.ensures.within)) c.if-seen-k-ne0.true v))

pub loop-at-smaller : goal.loop-at-smaller
loop-at-smaller c =
    let a = c.args in
    let l = c.loop-at in
    let s = a.reply.now in
    let ns = take a.n (mem_of a.m.now).nodes in
    let e : length ns ≡ a.n = count-nodes a.m.now a.n (omega arith) in
    let (i, j, z, t, g) = l.invariant in
    let (p, f) = there-end ID_BYTES s l.at _ c.in-Some.ensures in
    let m = end-front ID_BYTES s l.at in
    omega arith

pub loop-at-preserved : goal.loop-at-preserved
loop-at-preserved c =
    let a = c.args in
    let l = c.loop-at in
    let s = a.reply.now in
    let ns = take a.n (mem_of a.m.now).nodes in
    let e : length ns ≡ a.n = count-nodes a.m.now a.n (omega arith) in
    let (i, j, z, t, g) = l.invariant in
    let (p, f) = there-end ID_BYTES s l.at _ c.in-Some.ensures in
    let m = end-front ID_BYTES s l.at in
    let k = c.in-Some-entry_place.k in
    let b = c.in-Some-entry_place.ensures.within in
    let h : sound_nodes ID_BYTES ns ≡ true → k ≡ entry_place ns a.id (entry_at ID_BYTES s l.at) =
    λ v. (found_some _ _ (c.in-Some-entry_place.ensures.place v)).0 in (
      omega arith,
      omega arith,
      length-set l.seen k _ ∙ z,
      λ v. count_next ns a.id s l.seen l.at g (omega arith) f k (h v) (omega arith) c.if-seen-k-ne0.false
          (omega arith) l.count _ (t v),
      rw p (λ v. left-next ns a.id s l.seen l.at g (omega arith) f k (h v) (omega arith) c.if-seen-k-ne0.false
          (omega arith) v),
    )

pub returns-then-count-count_children : goal.returns-then-count-count_children
unfolding tables_in
returns-then-count-count_children c v k o q =
    let a = c.args in
    let l = c.loop-at in
    let s = a.reply.now in
    let ns = take a.n (mem_of a.m.now).nodes in
    let e : length ns ≡ a.n = count-nodes a.m.now a.n (omega arith) in
    let (i, j, z, t, g) = l.invariant in
    let h = c.count_children.ensures in
    sym (listing_stops (tables_in a.n o (mem_of a.m.now)) s k a.id q (listing_few ns a.id s l.seen l.at
    l.count g (omega arith) (t v) (λ y. c.if-count-count_children.true (y ∙ sym h)) v))

pub returns : goal.returns
unfolding tables_in
returns c v k o q =
    let a = c.args in
    let l = c.loop-at in
    let s = a.reply.now in
    let ns = take a.n (mem_of a.m.now).nodes in
    let e : length ns ≡ a.n = count-nodes a.m.now a.n (omega arith) in
    let (i, j, z, t, g) = l.invariant in
    let h = c.count_children.ensures in
    sym (listing_passes (tables_in a.n o (mem_of a.m.now)) s k a.id q (listing_whole ns a.id s l.seen
    l.at l.count g (omega arith) (t v) (c.if-count-count_children.false ∙ h) v))
