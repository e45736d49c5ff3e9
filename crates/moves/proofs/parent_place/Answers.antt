-- `moves::parent_place` meets its contract. Assumes nothing.
use native.Mathlib.Omega.{arith}
use Prim.Native.Nat.{ℕ, ◌<◌}
use mathlib.Core.Path.{refl, sym, subst, ap, ◌∙◌}
use lib.ListN.{take}
use Rattle.std.specs.Prelude.{Option, Some, None, unwrap_or, IfSome}
use Rattle.filesystem.specs.Tables.{node_at}
use Rattle.filesystem.specs.Ways.{ParentAt}
use Rattle.memory.specs.Layout.{mem_of}
use Rattle.tables.specs.laws.FoundLaws.{found_at}
use Rattle.tables.specs.laws.RowsInUse.{count-nodes}
use Rattle.moves.specs.laws.MoveLaws.{parent_found}
use Rattle.moves.proofs.parent_place.Goals as goal

within : (n : ℕ) (r : Option ℕ) → 0 < n → IfSome r (λ k. k < n) → unwrap_or r 0 < n
within n None h e = h
within n (Some k) h e = e

pub returns : goal.returns
returns c = (
  omega (arith, c.unwrap_or.ensures, within c.args.n _ (omega arith) c.find_listed.ensures.within),
  λ w e p.
      let a = c.args in
      let ns = take a.n (mem_of a.m.now).nodes in
      let f = c.find_listed in
      let (h, q) = parent_found w a.n (mem_of a.m.now).nodes (count-nodes a.m.now a.n (omega arith)) e
      a.k _ _ p (omega arith) c.node_parent.ensures refl in
      let i = c.unwrap_or.ensures ∙ ap (λ r. unwrap_or r 0) (f.ensures.place w e ∙ found_at _ _ h) in
      subst (ParentAt ns (node_at ns a.k)) (sym i) q,
)
