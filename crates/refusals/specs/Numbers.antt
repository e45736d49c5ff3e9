-- The numbers of refusals and of stop reasons, and what is judged by number.
--   number_of, reason_number     the number of each
--   Judged, numbered             what is judged, a refusal by its number
--   refusal_or_0, reason_or_0    the number of a test, 0 where it passes
--   number_or_0                  of a refusal that there may be, 0 where there is none
-- Assumes nothing.
use Rattle.std.specs.Prelude.{ℕ, Option, None, Some, Result, Ok, Err}
use Rattle.refusals.specs.declared.Refusal.{Refusal}
use Rattle.refusals.specs.declared.Refusal.TheVariants.{NotFound, Stopped, BadHandle, TooManyMaps, Denied, Busy, Exists}
use Rattle.refusals.specs.declared.Refusal.TheVariants.{NotDirectory, IsDirectory, Invalid, TooManyOpen, FileTooLarge}
use Rattle.refusals.specs.declared.Refusal.TheVariants.{NoSpace, ReadOnly, ShortBuffer, TooLong, NotEmpty, NotPending}
use Rattle.refusals.specs.declared.Refusal.TheVariants.{WrongDigest, BadImage, Pending}
use Rattle.refusals.specs.declared.StopReason.{StopReason}
use Rattle.refusals.specs.declared.StopReason.TheVariants.{Length, Status, Id, Descriptor, Page, Stat, Listing, Map}

abbrev pub number_of : Refusal → ℕ
number_of NotFound = 2
number_of Stopped = 5
number_of BadHandle = 9
number_of TooManyMaps = 12
number_of Denied = 13
number_of Busy = 16
number_of Exists = 17
number_of NotDirectory = 20
number_of IsDirectory = 21
number_of Invalid = 22
number_of TooManyOpen = 24
number_of FileTooLarge = 27
number_of NoSpace = 28
number_of ReadOnly = 30
number_of ShortBuffer = 34
number_of TooLong = 36
number_of NotEmpty = 39
number_of NotPending = 61
number_of WrongDigest = 74
number_of BadImage = 84
number_of Pending = 114

abbrev pub reason_number : StopReason → ℕ
reason_number Length = 1
reason_number Status = 2
reason_number Id = 3
reason_number Descriptor = 4
reason_number Page = 5
reason_number Stat = 6
reason_number Listing = 7
reason_number Map = 8

-- what is judged, or the number that refuses it
abbrev pub Judged : Type 0 → Type 0
Judged A = Result A ℕ

abbrev pub numbered : {A : Type 0} → Result A Refusal → Judged A
numbered (Ok x) = Ok x
numbered (Err e) = Err (number_of e)

-- of a test
abbrev pub refusal_or_0 : {A : Type 0} → Result A Refusal → ℕ
refusal_or_0 (Ok x) = 0
refusal_or_0 (Err e) = number_of e

abbrev pub reason_or_0 : {A : Type 0} → Result A StopReason → ℕ
reason_or_0 (Ok x) = 0
reason_or_0 (Err e) = reason_number e

abbrev pub number_or_0 : Option Refusal → ℕ
number_or_0 None = 0
number_or_0 (Some e) = number_of e
