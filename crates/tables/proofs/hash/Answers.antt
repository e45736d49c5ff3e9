-- `tables::hash` meets its contract. Assumes nothing.
use mathlib.Core.Path.{refl}
use borrow.Author.Rules.{rules}
use Rattle.tables.specs.View.{hash_of}
use Rattle.tables.proofs.hash.Goals as goal

pub returns : goal.returns
unfolding hash_of
returns c = (refl, search rules)
