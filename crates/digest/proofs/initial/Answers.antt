-- `digest::initial` meets its contract.
-- Assumes nothing.
use mathlib.Core.Path.{refl}
use Rattle.digest.specs.Sha256.{H0}
use Rattle.digest.proofs.initial.Goals as goal

pub returns : goal.returns
unfolding H0
returns c = refl
