-- The claim (SPECIFICATION 10) at the digest and the width that are delivered.
-- Assumes nothing.
use Rattle.std.proofs.Common.{arith}
use Rattle.configuration.specs.Delivered.{delivered}
use Rattle.digest.specs.laws.Laws.{length-sha256, bytes-sha256}
use Rattle.machine.specs.Claim.{Fit, FirstHalf, SecondHalf}
use Rattle.machine.proofs.Run.{first_half}
use Rattle.machine.proofs.HonestRun.{second_half}
use Rattle.machine.specs.Restart.{FirstHalfOfLives, SecondHalfOfLives}
use Rattle.machine.proofs.RestartRun.{first-half_of-lives, second_half_of_lives}
use Rattle.read_only.specs.Claim.{ReadOnlyClaim}
use Rattle.read_only.specs.Lives.{FirstHalfOfLives as FirstWithReaders, SecondHalfOfLives as SecondWithReaders}
use Rattle.read_only.proofs.laws.ClaimLaws.{read_only_claim}
use Rattle.read_only.proofs.laws.LifeLaws.{first_half_with_readers, second_half_with_readers}

pub delivered_fit : Fit delivered
unfolding delivered
delivered_fit = record { long = length-sha256; bytes = bytes-sha256; wide = omega arith }

-- whatever the host replies: guard and tree agree, or two different pages or images of the history have one SHA-256
pub agreement : FirstHalf delivered
agreement = first_half delivered delivered_fit

-- under an honest host nothing stops, and they agree
pub no_stop : SecondHalf delivered
no_stop = second_half delivered delivered_fit

-- the same for a client that was switched off and on, any number of times
pub agreement_of_lives : FirstHalfOfLives delivered
agreement_of_lives = first-half_of-lives delivered delivered_fit

pub no_stop_of_lives : SecondHalfOfLives delivered
no_stop_of_lives = second_half_of_lives delivered delivered_fit

-- and where guards and read-only guards take turns
pub agreement_with_readers : FirstWithReaders delivered
agreement_with_readers = first_half_with_readers delivered delivered_fit

pub no_stop_with_readers : SecondWithReaders delivered
no_stop_with_readers = second_half_with_readers delivered delivered_fit

-- a read-only guard saves what it loaded
pub read_only : ReadOnlyClaim delivered
read_only = read_only_claim delivered
