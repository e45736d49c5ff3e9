-- `requests::put_page` meets its contract. Assumes nothing.
use mathlib.Core.Path.{◌∙◌}
use Rattle.requests.specs.laws.StoredPageLaws.{page_put}
use native.Mathlib.Omega.{arith}
use Rattle.requests.proofs.put_page.Goals as goal

pub returns : goal.returns
returns c =
    let put = c.put in
    let a = c.args in
    c.put_zeros.ensures
    ∙ rw put.ensures (page_put a.out.now a.at a.page.now (omega arith) (omega arith))
