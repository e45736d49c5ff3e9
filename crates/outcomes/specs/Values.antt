-- The four outcomes (SPECIFICATION 6.4): number and values of each, and the machine's answer that an outcome and the
-- caller's buffers are.
--   kind_of, value_of, length_of    of an outcome, as C sees it
--   answer_in, bytes_in            the machine's answer that outcome and buffers are, and how many bytes it has
-- Assumes nothing.
use Rattle.std.specs.Prelude.{List, ℕ, length, take}
use Rattle.rules.specs.Skeleton.{Answer, done, ask, refused, stopped}
use Rattle.refusals.specs.Numbers.{number_of, reason_number}
use Rattle.outcomes.specs.declared.Outcome.{Outcome}
use Rattle.outcomes.specs.declared.Outcome.TheVariants.{Done, Ask, Refused, Stopped}

-- done, a request, refused, stopped, as C sees them
unfoldable pub kind_of : Outcome → ℕ
kind_of (Done n l) = 0
kind_of (Ask l) = 1
kind_of (Refused e) = 2
kind_of (Stopped e) = 3

unfoldable pub value_of : Outcome → ℕ
value_of (Done n l) = n
value_of (Ask l) = 0
value_of (Refused e) = number_of e
value_of (Stopped e) = reason_number e

unfoldable pub length_of : Outcome → ℕ
length_of (Done n l) = l
length_of (Ask l) = l
length_of (Refused e) = 0
length_of (Stopped e) = 0

-- with the buffers as they are afterwards
unfoldable pub answer_in : Outcome → (answer request : List ℕ) → Answer
answer_in (Done n l) a q = done n (take l a)
answer_in (Ask l) a q = ask (take l q)
answer_in (Refused e) a q = refused (number_of e)
answer_in (Stopped e) a q = stopped (reason_number e)

-- how many bytes an answer has, in whichever buffer they stand
unfoldable pub bytes_in : Answer → ℕ
bytes_in (done n b) = length b
bytes_in (ask q) = length q
bytes_in (refused n) = 0
bytes_in (stopped n) = 0
