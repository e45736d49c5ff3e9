-- `replies::judge_status` meets its contract. Assumes nothing.
use native.Mathlib.Omega.{arith}
use mathlib.Core.Path.{◌≡◌, sym, ap, ◌∙◌}
use mir.Syntax.{w32}
use mir.Val.{to_z, of_z}
use mir.Facts.{to_z-of_z}
use Rattle.replies.specs.laws.JudgedLaws.{status-length, status-other, status_same}
use borrow.Author.Rules.{rules}
use Rattle.replies.proofs.judge_status.Goals as goal

pub returns-then-reply-ne4 : goal.returns-then-reply-ne4
returns-then-reply-ne4 c = let a = c.args in sym (status-length a.reply.now a.expected c.if-reply-ne4.true)

pub returns-then-i32_at-expected : goal.returns-then-i32_at-expected
returns-then-i32_at-expected c =
    let a = c.args in
    let i = c.i32_at in
    sym (status-other a.reply.now i.result i.ensures (omega arith) a.expected
    (λ e. c.if-i32_at-expected.true (ap (of_z w32) e)))

pub returns : goal.returns
returns c =
    let a = c.args in
    let i = c.i32_at in
    let e : i.result ≡ a.expected =
    sym (to_z-of_z {w = w32} (search rules)) ∙ ap (to_z w32) c.if-i32_at-expected.false ∙ to_z-of_z {w = w32} (search rules) in
    sym (status_same a.reply.now i.result i.ensures (omega arith) a.expected e)
