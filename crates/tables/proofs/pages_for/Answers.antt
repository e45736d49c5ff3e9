-- `tables::pages_for` meets its contract. Assumes nothing.
use Rattle.filesystem.specs.Tables.{pages_for}
use borrow.Author.Rules.{rules}
use Rattle.tables.proofs.pages_for.Goals as goal

pub returns : goal.returns
unfolding pages_for
returns c = search rules
