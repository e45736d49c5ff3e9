-- `handle_calls::file_place` meets its contract. Assumes nothing.
use native.Mathlib.Omega.{arith}
use mathlib.Core.Path.{◌≡◌, ap, ◌∙◌}
use Prim.Native.Nat.{◌≤◌}
use lib.ListN.{length, take}
use Rattle.std.specs.Prelude.{unwrap_or}
use Rattle.lists.specs.Search.{place_most}
use Rattle.filesystem.specs.Tables.{find_id, has_id}
use Rattle.memory.specs.Layout.{mem_of}
use Rattle.tables.specs.laws.FoundLaws.{found_or}
use Rattle.tables.specs.laws.RowsInUse.{count-nodes}
use Rattle.handle_calls.proofs.file_place.Goals as goal

pub returns : goal.returns
unfolding find_id
returns c w s =
    let a = c.args in
    let ns = take a.n (mem_of a.m.now).nodes in
    let e : length ns ≡ a.n = count-nodes a.m.now a.n (omega arith) in
    let l : find_id ns a.handle ≤ length ns = place_most (has_id a.handle) ns in
    c.unwrap_or.ensures ∙ ap (λ r. unwrap_or r a.n) (c.find_node.ensures.place w s) ∙ found_or a.n _ (omega arith)
