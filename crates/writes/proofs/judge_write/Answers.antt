-- `writes::judge_write` meets its contract. Assumes nothing.
use native.Mathlib.Omega.{arith}
use Prim.Native.Nat.{ℕ, ◌+◌}
use mathlib.Core.Path.{refl, ap, ◌∙◌}
use lib.ListN.{length}
use Rattle.memory.specs.Layout.{mem_of}
use Rattle.tables.specs.View.{tables_in}
use Rattle.handle_calls.specs.laws.HandledLaws.{judged_bad, with_err, with_ok, judged_refused, judged_open, has-place}
use Rattle.handle_calls.specs.laws.HandledLaws.{has_cursor}
use Rattle.writes.specs.laws.JudgedLaws.{write_refused, write-long, write-full, write_handled}
use Rattle.writes.proofs.judge_write.Goals as goal

pub returns-in_err-k : goal.returns-in_err-k
unfolding tables_in
returns-in_err-k c =
    let a = c.args in
    let (b, l) = with_err _ a.handle 2 _ c.in_err-k.ensures in
    judged_bad _ _ c.from_residual.ensures.1 b
    (λ w s. write_refused (tables_in a.n a.o (mem_of a.m.now)) a.handle _ refl a.bytes.now l)

pub returns-then-bytes-gt-FILE_BYTES : goal.returns-then-bytes-gt-FILE_BYTES
unfolding tables_in
returns-then-bytes-gt-FILE_BYTES c =
    let a = c.args in
    let (k, has) = with_ok _ a.handle 2 _ c.in_ok-k.ensures in
    judged_refused 27 (λ w s. write-long (tables_in a.n a.o (mem_of a.m.now)) a.handle _
    k a.bytes.now _ refl has (omega arith))

pub open_cursor-requires : goal.open_cursor-requires
open_cursor-requires c =
    let a = c.args in
    let h = has-place a.m.now a.o 2 _ (omega arith) (with_ok _ a.handle 2 _ c.in_ok-k.ensures).1 in
    (omega arith, omega arith)

pub returns-then-end-gt-FILE_BYTES : goal.returns-then-end-gt-FILE_BYTES
unfolding tables_in
returns-then-end-gt-FILE_BYTES c =
    let a = c.args in
    let (k, has) = with_ok _ a.handle 2 _ c.in_ok-k.ensures in
    let ends = ap (λ (x : ℕ). x + length a.bytes.now) (c.open_cursor.ensures
    ∙ has_cursor a.m.now a.o 2 _ (omega arith) has) in
    judged_refused 27 (λ w s. write-long (tables_in a.n a.o (mem_of a.m.now)) a.handle _
    k a.bytes.now _ ends has (omega arith))

pub file_place-node-requires : goal.file_place-node-requires
file_place-node-requires c =
    let a = c.args in
    let h = has-place a.m.now a.o 2 _ (omega arith) (with_ok _ a.handle 2 _ c.in_ok-k.ensures).1 in
    (omega arith, omega arith, omega arith)

pub returns-then-is_full : goal.returns-then-is_full
unfolding tables_in
returns-then-is_full c =
    let size_at_lem = c.size_at in
    let file_place_lem = c.file_place-node in
    let open-cursor = c.open_cursor in
    let a = c.args in
    let (k, has) = with_ok _ a.handle 2 _ c.in_ok-k.ensures in
    let ends = ap (λ (x : ℕ). x + length a.bytes.now) (open-cursor.ensures
    ∙ has_cursor a.m.now a.o 2 _ (omega arith) has) in
    judged_refused 28 (λ w s. write-full (tables_in a.n a.o (mem_of a.m.now)) a.handle _
    k a.bytes.now _ ends has
    _ _ _ _ (file_place_lem.ensures w s) size_at_lem.ensures c.max-size.ensures
    (c.is_full.ensures w a.o s) (omega arith) c.if-is_full.true)

pub returns : goal.returns
unfolding tables_in
returns c =
    let size_at_lem = c.size_at in
    let file_place_lem = c.file_place-node in
    let open-cursor = c.open_cursor in
    let a = c.args in
    let (k, has) = with_ok _ a.handle 2 _ c.in_ok-k.ensures in
    let ends = ap (λ (x : ℕ). x + length a.bytes.now) (open-cursor.ensures
    ∙ has_cursor a.m.now a.o 2 _ (omega arith) has) in
    judged_open _ _ (has-place a.m.now a.o 2 _ (omega arith) has)
    (λ w s. write_handled (tables_in a.n a.o (mem_of a.m.now)) a.handle _ k
    a.bytes.now _ ends has
    _ _ _ _ (file_place_lem.ensures w s) size_at_lem.ensures c.max-size.ensures
    (c.is_full.ensures w a.o s) (omega arith) c.if-is_full.false)
