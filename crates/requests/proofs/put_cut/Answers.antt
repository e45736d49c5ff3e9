-- `requests::put_cut` meets its contract. Assumes nothing.
use mathlib.Core.Path.{◌∙◌}
use Rattle.requests.specs.laws.StoredPageLaws.{shrunk}
use Rattle.requests.proofs.put_cut.Goals as goal

pub returns : goal.returns
returns c =
    let smaller = c.min-n in
    let excess = c.saturating_sub in
    let a = c.args in
    c.put_page.ensures
    ∙ rw (shrunk a.page.now a.size a.i _ (smaller.ensures ∙ rw excess.ensures))
