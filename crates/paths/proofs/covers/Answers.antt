-- `paths::covers` meets its contract: the code's table is the definition's, entry by entry. Assumes nothing.
use native.Mathlib.Omega.{arith}
use Prim.Native.Nat.{ℕ, ◌+◌, ◌-◌, ◌*◌, ◌≤◌}
use mathlib.Core.Path.{sym, ap}
use lib.Dec.{eqb}
use lib.ListN.{get_or, length, get_or-eq_default}
use Rattle.filesystem.specs.Rights.{cover_table, covers}
use Rattle.paths.proofs.covers.Goals as goal

-- past the table
pub returns-then-k-ge24 : goal.returns-then-k-ge24
unfolding covers cover_table
returns-then-k-ge24 c =
    let a = c.args in
    let h : length cover_table ≤ 8 * (a.rights - 1) + a.mode = omega arith in
    sym (ap (λ (x : ℕ). eqb x 1) (get_or-eq_default cover_table 0 h))

-- the whole table, computed
pub returns : goal.returns
unfolding covers cover_table
returns c = ap (λ (k : ℕ). eqb (get_or cover_table k 0) 1) c.cover_entry-k.ensures
