-- `requests::write_map` meets its contract. Assumes nothing.
use Rattle.rules.specs.Requests.{store_length}
use borrow.Author.Rules.{rules}
use Rattle.requests.proofs.write_map.Goals as goal

pub put_head-requires : goal.put_head-requires
unfolding store_length
put_head-requires c = search rules
