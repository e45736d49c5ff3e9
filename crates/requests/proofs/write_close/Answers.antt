-- `requests::write_close` meets its contract. Assumes nothing.
use mathlib.Core.Path.{sym}
use Rattle.rules.specs.Requests.{store_length, close_request}
use Rattle.requests.specs.laws.Heads.{length_head}
use borrow.Author.Rules.{rules}
use Rattle.requests.proofs.write_close.Goals as goal

pub put_head-requires : goal.put_head-requires
unfolding store_length
put_head-requires c = search rules

pub returns : goal.returns
unfolding close_request
returns c =
    let a = c.args in
    (c.put_head.ensures, sym (length_head 4 a.descriptor))
