-- `digest::absorb` meets its contract. The invariant: h is the hash value after i blocks.
-- Assumes nothing.
use mathlib.Core.Path.{◌≡◌}
use Rattle.digest.specs.Sha256.{hash}
use Rattle.digest.proofs.absorb.Given as goal

abbrev pub invariant-loop-i : goal.invariant-loop-i
invariant-loop-i l = l.h ≡ hash l.initial.h l.blocks l.i
