-- `zero_page::digest` meets its contract. Assumes nothing.
use mathlib.Core.Path.{sym}
use Rattle.zero_page.specs.laws.Computed.{zero_digest_lem}
use Rattle.zero_page.proofs.digest.Goals as goal

pub returns : goal.returns
returns c = sym zero_digest_lem
