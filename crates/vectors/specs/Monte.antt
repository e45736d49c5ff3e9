-- The Monte Carlo test of NIST's SHA validation system (SHAVS, July 2014), §6.4: digests of digests.
-- Assumes nothing.
use Rattle.std.specs.Prelude.{ℕ, zero, suc, List, ◌++◌}
use Rattle.digest.specs.Sha256.{sha256}

-- MD i of a seed: the first three are the seed, each further one is the digest of the three before it
unfoldable pub MD : List ℕ → ℕ → List ℕ
MD s zero = s
MD s (suc zero) = s
MD s (suc (suc zero)) = s
MD s (suc (suc (suc i))) = sha256 (MD s i ++ (MD s (suc i) ++ MD s (suc (suc i))))
