-- `listings::judge_listing` meets its contract. The loop's invariant: the children without a mark are to be found in
-- what remains of the reply,
-- and the count has the others. The measure is what remains. Assumes nothing.
use Prim.Native.Nat.{◌+◌, ◌-◌, ◌≤◌}
use mathlib.Core.Path.{◌≡◌}
use lib.ListN.{length, take}
use Rattle.memory.specs.Layout.{mem_of}
use mathlib.Core.Bool.{true}
use Rattle.filesystem.specs.Tables.{ID_BYTES, NODES, children}
use Rattle.filesystem.specs.Image.{sound_nodes}
use Rattle.listings.specs.Listing.{unseen, marks}
use Rattle.listings.specs.laws.ListingLaws.{Left}
use Rattle.listings.proofs.judge_listing.Given as goal

abbrev pub invariant-loop-at : goal.invariant-loop-at
invariant-loop-at l =
    (l.at ≤ length l.reply) × (l.count ≤ l.at) × (length l.seen ≡ NODES)
    × (sound_nodes ID_BYTES (take l.n (mem_of l.m).nodes) ≡ true
    → l.count + length (unseen l.id (take l.n (mem_of l.m).nodes) (marks l.seen)) ≡ length (children (take l.n (mem_of l.m).nodes)
    l.id))
    × Left (take l.n (mem_of l.m).nodes) l.id l.reply l.seen l.at

abbrev pub decreases-loop-at : goal.decreases-loop-at
decreases-loop-at l = length l.reply - l.at
