-- `requests::put_written` meets its contract. Assumes nothing.
use mathlib.Core.Path.{refl, ◌∙◌}
use Rattle.requests.specs.laws.StoredPageLaws.{unwritten, written-put}
use native.Mathlib.Omega.{arith}
use Rattle.requests.proofs.put_written.Goals as goal

pub returns-then-to-from : goal.returns-then-to-from
returns-then-to-from c =
    let excess = c.saturating_sub-from in
    let a = c.args in
    c.put_page.ensures
    ∙ rw (unwritten a.page.now a.position a.bytes.now a.i _ _ excess.ensures
    (c.min-to.ensures ∙ rw c.saturating_sub.ensures) c.if-to-from.true)

pub returns : goal.returns
returns c =
    let excess3 = c.saturating_sub-2 in
    let if1 = c.if-to-from in
    let smaller = c.min-to in
    let excess2 = c.saturating_sub in
    let excess = c.saturating_sub-from in
    let put-page = c.put_page in
    let a = c.args in
    c.put.ensures
    ∙ rw (put-page.ensures, excess3.ensures)
    (written-put a.page.now a.position a.bytes.now a.i _ _ excess.ensures (smaller.ensures
    ∙ rw excess2.ensures) _ refl if1.false a.out.now a.at (omega arith))
