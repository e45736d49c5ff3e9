-- `creations::judge_id` meets its contract. Assumes nothing.
use native.Mathlib.Omega.{arith}
use mathlib.Core.Path.{◌≡◌, refl, ap, sym, ◌∙◌}
use lib.ListN.{length, take}
use Rattle.std.specs.Prelude.{is_some}
use Rattle.memory.specs.Layout.{mem_of}
use Rattle.tables.specs.View.{tables_in}
use Rattle.tables.specs.laws.FoundLaws.{found_within, found_nowhere}
use Rattle.tables.specs.laws.RowsInUse.{count-nodes}
use Rattle.creations.specs.laws.IdLaws.{id_length, id_zero, id_held, id_new}
use Rattle.creations.proofs.judge_id.Goals as goal

pub returns-then-reply-ne-ID_BYTES : goal.returns-then-reply-ne-ID_BYTES
unfolding tables_in
returns-then-reply-ne-ID_BYTES c p k m name o =
    let a = c.args in
    sym (id_length (tables_in a.n o (mem_of a.m.now)) a.reply.now p k m name c.if-reply-ne-ID_BYTES.true)

pub returns-then-id-eq0 : goal.returns-then-id-eq0
unfolding tables_in
returns-then-id-eq0 c p k m name o =
    let a = c.args in
    sym (id_zero (tables_in a.n o (mem_of a.m.now)) a.reply.now p k m name _ c.number_at-id.ensures
    (omega arith) c.if-id-eq0.true)

pub returns-then-is_some : goal.returns-then-is_some
unfolding tables_in
returns-then-is_some c p k m name o =
    let a = c.args in
    let e : length (take a.n (mem_of a.m.now).nodes) ≡ a.n = count-nodes a.m.now a.n (omega arith) in
    let h = found_within _ _ (ap is_some (sym c.find_id.ensures) ∙ sym c.is_some.ensures ∙ c.if-is_some.true) in
    sym (id_held (tables_in a.n o (mem_of a.m.now)) a.reply.now p k m name _
    c.number_at-id.ensures (omega arith) _ refl (omega arith))

pub returns : goal.returns
unfolding tables_in
returns c p k m name o =
    let a = c.args in
    let e : length (take a.n (mem_of a.m.now).nodes) ≡ a.n = count-nodes a.m.now a.n (omega arith) in
    let h = found_nowhere _ _ (ap is_some (sym c.find_id.ensures) ∙ sym c.is_some.ensures ∙ c.if-is_some.false) in
    sym (id_new (tables_in a.n o (mem_of a.m.now)) a.reply.now p k m name _
    c.number_at-id.ensures (omega arith) _ refl
    c.if-id-eq0.false (omega arith))
