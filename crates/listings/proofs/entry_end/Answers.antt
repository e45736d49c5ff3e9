-- `listings::entry_end` meets its contract. Assumes nothing.
use native.Mathlib.Omega.{arith}
use Prim.Native.Nat.{◌+◌}
use mathlib.Core.Path.{◌≡◌, ap, ◌∙◌}
use lib.ListN.{get_or}
use Rattle.std.specs.Prelude.{Some}
use Rattle.filesystem.specs.Tables.{ID_BYTES}
use Rattle.listings.specs.Listing.{entry_end}
use Rattle.listings.specs.laws.ListingLaws.{end-front, end_cut, end-there}
use Rattle.listings.proofs.entry_end.Goals as goal

pub returns-then-reply-at-lt-ENTRY_FRONT : goal.returns-then-reply-at-lt-ENTRY_FRONT
returns-then-reply-at-lt-ENTRY_FRONT c =
    let a = c.args in
    let f = end-front ID_BYTES a.reply.now a.at in
    end_cut ID_BYTES a.reply.now a.at (omega arith)

pub returns-then-reply-end : goal.returns-then-reply-end
unfolding entry_end
returns-then-reply-end c = let a = c.args in end_cut ID_BYTES a.reply.now a.at (omega arith)

pub returns : goal.returns
unfolding entry_end
returns c =
    let a = c.args in
    let e : a.at + 6 + get_or a.reply.now (a.at + ID_BYTES + 1) 0 ≡ entry_end ID_BYTES a.reply.now a.at =
    omega arith in
    ap Some e ∙ end-there ID_BYTES a.reply.now a.at (omega arith)
