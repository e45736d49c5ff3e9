-- `requests::write_cut` meets its contract. Assumes nothing.
use mathlib.Core.Path.{sym}
use Rattle.rules.specs.Requests.{store_length, cut_request}
use Rattle.requests.specs.laws.Heads.{length_longer}
use borrow.Author.Rules.{rules}
use Rattle.requests.proofs.write_cut.Goals as goal

pub put_longer-requires : goal.put_longer-requires
unfolding store_length
put_longer-requires c = search rules

pub returns : goal.returns
unfolding cut_request
returns c =
    let a = c.args in
    (c.put_longer.ensures, sym (length_longer 8 a.descriptor a.size))
