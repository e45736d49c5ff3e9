-- No refusal and no reason has the number 0; what is passed on keeps its number.
-- Assumes nothing.
use Rattle.std.specs.Prelude.{◌≡◌, refl, ◌<◌, eqb, Result, Ok, Err, is_ok, IsErrAnd}
use Rattle.std.proofs.lemmas.Result.{err_from_is_err_and}
use Rattle.std.proofs.Common.{arith, ap, ◌∙◌}
use Rattle.refusals.specs.Numbers.{number_of, reason_number, numbered, reason_or_0}
use Rattle.refusals.specs.declared.Refusal.{Refusal}
use Rattle.refusals.specs.declared.Refusal.TheVariants.{NotFound, Stopped, BadHandle, TooManyMaps, Denied, Busy, Exists}
use Rattle.refusals.specs.declared.Refusal.TheVariants.{NotDirectory, IsDirectory, Invalid, TooManyOpen, FileTooLarge}
use Rattle.refusals.specs.declared.Refusal.TheVariants.{NoSpace, ReadOnly, ShortBuffer, TooLong, NotEmpty, NotPending}
use Rattle.refusals.specs.declared.Refusal.TheVariants.{WrongDigest, BadImage, Pending}
use Rattle.refusals.specs.declared.StopReason.{StopReason}
use Rattle.refusals.specs.declared.StopReason.TheVariants.{Length, Status, Id, Descriptor, Page, Stat, Listing, Map}

pub number_positive : (e : Refusal) → 0 < number_of e
number_positive NotFound = omega arith
number_positive Stopped = omega arith
number_positive BadHandle = omega arith
number_positive TooManyMaps = omega arith
number_positive Denied = omega arith
number_positive Busy = omega arith
number_positive Exists = omega arith
number_positive NotDirectory = omega arith
number_positive IsDirectory = omega arith
number_positive Invalid = omega arith
number_positive TooManyOpen = omega arith
number_positive FileTooLarge = omega arith
number_positive NoSpace = omega arith
number_positive ReadOnly = omega arith
number_positive ShortBuffer = omega arith
number_positive TooLong = omega arith
number_positive NotEmpty = omega arith
number_positive NotPending = omega arith
number_positive WrongDigest = omega arith
number_positive BadImage = omega arith
number_positive Pending = omega arith

pub reason_positive : (e : StopReason) → 0 < reason_number e
reason_positive Length = omega arith
reason_positive Status = omega arith
reason_positive Id = omega arith
reason_positive Descriptor = omega arith
reason_positive Page = omega arith
reason_positive Stat = omega arith
reason_positive Listing = omega arith
reason_positive Map = omega arith

-- a test passes where its number is 0
pub passes_at_0 : {A : Type 0} (r : Result A StopReason) → is_ok r ≡ eqb (reason_or_0 r) 0
passes_at_0 (Ok x) = refl
passes_at_0 (Err Length) = refl
passes_at_0 (Err Status) = refl
passes_at_0 (Err Id) = refl
passes_at_0 (Err Descriptor) = refl
passes_at_0 (Err Page) = refl
passes_at_0 (Err Stat) = refl
passes_at_0 (Err Listing) = refl
passes_at_0 (Err Map) = refl

-- what a `?` answers of a refusal
pub passed_on : {A : Type 0} (r : Result A Refusal) (e : Refusal) → IsErrAnd r (λ y. y ≡ e)
    → numbered r ≡ Err (number_of e)
passed_on r e h =
    let p = err_from_is_err_and r h in
    ap numbered p.1 ∙ ap (λ y. Err (number_of y)) p.2

pub reason_passed_on : {A : Type 0} (r : Result A StopReason) (e : StopReason) → IsErrAnd r (λ y. y ≡ e)
    → reason_or_0 r ≡ reason_number e
reason_passed_on r e h =
    let p = err_from_is_err_and r h in
    ap reason_or_0 p.1 ∙ ap reason_number p.2

-- 34 is of one refusal
pub short_buffer : (e : Refusal) → number_of e ≡ 34 → e ≡ ShortBuffer
short_buffer NotFound h = absurd (omega (arith, h))
short_buffer Stopped h = absurd (omega (arith, h))
short_buffer BadHandle h = absurd (omega (arith, h))
short_buffer TooManyMaps h = absurd (omega (arith, h))
short_buffer Denied h = absurd (omega (arith, h))
short_buffer Busy h = absurd (omega (arith, h))
short_buffer Exists h = absurd (omega (arith, h))
short_buffer NotDirectory h = absurd (omega (arith, h))
short_buffer IsDirectory h = absurd (omega (arith, h))
short_buffer Invalid h = absurd (omega (arith, h))
short_buffer TooManyOpen h = absurd (omega (arith, h))
short_buffer FileTooLarge h = absurd (omega (arith, h))
short_buffer NoSpace h = absurd (omega (arith, h))
short_buffer ReadOnly h = absurd (omega (arith, h))
short_buffer ShortBuffer h = refl
short_buffer TooLong h = absurd (omega (arith, h))
short_buffer NotEmpty h = absurd (omega (arith, h))
short_buffer NotPending h = absurd (omega (arith, h))
short_buffer WrongDigest h = absurd (omega (arith, h))
short_buffer BadImage h = absurd (omega (arith, h))
short_buffer Pending h = absurd (omega (arith, h))
