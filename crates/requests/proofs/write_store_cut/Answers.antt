-- `requests::write_store_cut` meets its contract. Assumes nothing.
use mathlib.Core.Path.{refl}
use Rattle.rules.specs.Requests.{store_length}
use Rattle.rules.specs.Pages.{shrinking, fill}
use Rattle.requests.specs.laws.Heads.{behind_store}
use borrow.Author.Rules.{rules}
use Rattle.requests.proofs.write_store_cut.Goals as goal

pub put_store-requires : goal.put_store-requires
unfolding store_length
put_store-requires c = search rules

pub put_cut-requires : goal.put_cut-requires
unfolding store_length
put_cut-requires c = search rules

pub returns : goal.returns
unfolding store_length
returns c =
    let put-store = c.put_store in
    let a = c.args in (
      behind_store a.out.now _ _ a.descriptor a.i a.size (fill (shrinking a.to) a.i a.page.now)
          put-store.ensures c.put_cut.ensures,
      refl,
    )
