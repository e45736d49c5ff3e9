-- `digest::absorb` meets its contract. The invariant: h is the hash value after i blocks.
-- Assumes nothing.
use mathlib.Core.Path.{refl, ◌∙◌, ap}
use native.Mathlib.Omega.{arith}
use native.Mathlib.Numerals.{add-one}
use Rattle.digest.specs.Sha256.{hash}
use Rattle.digest.specs.Streaming.{absorbed}
use Rattle.digest.proofs.absorb.Goals as goal

pub loop-i-init : goal.loop-i-init
unfolding hash
loop-i-init c = refl

pub loop-i-preserved : goal.loop-i-preserved
unfolding hash
loop-i-preserved c = rw add-one (c.next_hash-h.ensures ∙ rw c.loop-i.invariant)

pub returns : goal.returns
unfolding absorbed
returns c = c.loop-i.invariant ∙ ap (hash _ _) (omega arith)
