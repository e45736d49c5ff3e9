-- `attributes::stat_row` meets its contract. Assumes nothing.
use Prim.Native.Nat.{ℕ, ◌+◌}
use mathlib.Core.Path.{refl, ap, ◌∙◌}
use mathlib.Core.List.{List}
use lib.ListN.{set, replicate}
use Rattle.lists.specs.LittleEndian.{encode}
use Rattle.lists.specs.Parts.{overwrite}
use Rattle.filesystem.specs.Tables.{ID_BYTES}
use Rattle.attributes.specs.laws.StatLaws.{stat-written}
use Rattle.attributes.proofs.stat_row.Goals as goal

pub returns : goal.returns
returns c =
    let a = c.args in
    c.put_number-2.ensures
    ∙ ap (λ (y : List ℕ). overwrite (set (set y ID_BYTES a.kind) (ID_BYTES + 1) a.mode) (ID_BYTES + 2)
    (encode 4 a.size)) c.put_number.ensures
    ∙ stat-written ID_BYTES a.id a.kind a.mode a.size (replicate 10 0) refl
