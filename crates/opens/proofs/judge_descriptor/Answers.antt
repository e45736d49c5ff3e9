-- `opens::judge_descriptor` meets its contract. Assumes nothing.
use native.Mathlib.Omega.{arith}
use mathlib.Core.Path.{◌≡◌, refl, ap, sym, ◌∙◌}
use lib.ListN.{length, take}
use mir.Syntax.{w32}
use mir.Val.{to_z, of_z}
use mir.Facts.{to_z-of_z}
use Rattle.std.specs.Prelude.{is_some}
use Rattle.memory.specs.Layout.{mem_of}
use Rattle.tables.specs.View.{tables_in}
use Rattle.tables.specs.laws.FoundLaws.{found_within, found_nowhere}
use Rattle.tables.specs.laws.RowsInUse.{count-opens}
use Rattle.opens.specs.laws.DescriptorLaws.{descriptor_length, descriptor_negative}
use Rattle.opens.specs.laws.DescriptorLaws.{descriptor_high, descriptor_held, descriptor_new}
use borrow.Author.Rules.{rules}
use Rattle.opens.proofs.judge_descriptor.Goals as goal

pub returns-then-reply-ne4 : goal.returns-then-reply-ne4
unfolding tables_in
returns-then-reply-ne4 c k rights n =
    let a = c.args in
    sym (descriptor_length (tables_in n a.o (mem_of a.m.now)) a.reply.now k rights c.if-reply-ne4.true)

pub returns-then-d-lt0 : goal.returns-then-d-lt0
unfolding tables_in
returns-then-d-lt0 c k rights n =
    let a = c.args in
    sym (descriptor_negative (tables_in n a.o (mem_of a.m.now)) a.reply.now k rights
    (to_z w32 (of_z w32 c.i32_at-d.result))
    (to_z-of_z {w = w32} (search rules) ∙ c.i32_at-d.ensures) (omega arith) c.if-d-lt0.true)

pub returns-then-d : goal.returns-then-d
unfolding tables_in
returns-then-d c k rights n =
    let a = c.args in
    sym (descriptor_high (tables_in n a.o (mem_of a.m.now)) a.reply.now k rights
    (to_z w32 (of_z w32 c.i32_at-d.result))
    (to_z-of_z {w = w32} (search rules) ∙ c.i32_at-d.ensures) (omega arith) c.if-d.true)

pub returns-then-is_some : goal.returns-then-is_some
unfolding tables_in
returns-then-is_some c k rights n =
    let a = c.args in
    let e : length (take a.o (mem_of a.m.now).opens) ≡ a.o = count-opens a.m.now a.o (omega arith) in
    let h = found_within _ _ (ap is_some (sym c.find_descriptor.ensures) ∙ sym c.is_some.ensures ∙ c.if-is_some.true) in
    sym (descriptor_held (tables_in n a.o (mem_of a.m.now)) a.reply.now k rights
    (to_z w32 (of_z w32 c.i32_at-d.result))
    (to_z-of_z {w = w32} (search rules) ∙ c.i32_at-d.ensures) (omega arith)
    c.if-d-lt0.false _ refl (omega arith))

pub returns : goal.returns
unfolding tables_in
returns c k rights n =
    let a = c.args in
    let e : length (take a.o (mem_of a.m.now).opens) ≡ a.o = count-opens a.m.now a.o (omega arith) in
    let h = found_nowhere _ _ (ap is_some (sym c.find_descriptor.ensures) ∙ sym c.is_some.ensures
    ∙ c.if-is_some.false) in
    sym (descriptor_new (tables_in n a.o (mem_of a.m.now)) a.reply.now k rights
    (to_z w32 (of_z w32 c.i32_at-d.result))
    (to_z-of_z {w = w32} (search rules) ∙ c.i32_at-d.ensures) (omega arith)
    c.if-d-lt0.false _ refl
    c.if-d.false (omega arith))
