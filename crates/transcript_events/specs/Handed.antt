-- What events that are handed in as digits do: what the guard promises of the memory before, m, and now, m', and the
-- line that is said of its outcome.
--   EntryPromise e      the guard's promise of a call or a reply, at its entry
--   Answered, Saved, Loaded, MadeFresh    an outcome of which the guard's promise holds, and its line
--   AnsweredDigits, LoadedDigits          the same of what digits were read as; digits that are refused change nothing
-- Assumes nothing.
use Rattle.std.specs.Prelude.{◌≡◌, List, ℕ, length, replicate, Result, Ok, Err}
use Rattle.text.specs.Ascii.{ascii}
use Rattle.text.specs.Hex.{bytes_of}
use Rattle.text.specs.declared.hex.DecodeError.{DecodeError}
use Rattle.rules.specs.Skeleton.{Buffers, call, reply, answer_length, request_length}
use Rattle.configuration.specs.Delivered.{delivered}
use Rattle.outcomes.specs.declared.Outcome.{Outcome}
use Rattle.outcomes.specs.Values.{answer_in}
use Rattle.guard.specs.Promise.{buffers, Promise, ReaderPromise, FreshPromise, SavePromise, LoadPromise}
use Rattle.desk_lines.specs.Lines.{printed, printed_bad}
use Rattle.transcript_lines.specs.Fields.{first_field, behind_field}
use Rattle.transcript_lines.specs.Said.{saved_line}
use Rattle.transcript_lines.specs.declared.Load.{Load}
use Rattle.transcript_events.specs.declared.Entry.{Entry}
use Rattle.transcript_events.specs.declared.Entry.TheVariants.{Call, ReaderCall, Reply}
use Rattle.transcript_events.specs.declared.Lengths.{Lengths}

abbrev pub zeros : ℕ → List ℕ
zeros n = replicate n 0

-- bytes b and buffers of a and q bytes
unfoldable pub EntryPromise : Entry → (m b : List ℕ) → (a q : ℕ) → Outcome → List ℕ → (x x' : Buffers) → Type 0
EntryPromise Call m b a q r m' x x' = Promise m (call b a q) r m' x x'
EntryPromise ReaderCall m b a q r m' x x' = ReaderPromise m (call b a q) r m' x x'
EntryPromise Reply m b a q r m' x x' = Promise m (reply b a q) r m' x x'

-- bytes b, with buffers that hold a and q
pub record Answered (e : Entry) (m b a q m' line : List ℕ) : Type 0 where
  pub outcome : Outcome
  pub answer : List ℕ
  pub request : List ℕ
  pub promised : EntryPromise e m b (length a) (length q) outcome m' (buffers a q) (buffers answer request)
  pub said : line ≡ printed (answer_in outcome answer request)

unfoldable pub AnsweredDigits : Result ℕ DecodeError → Entry → (m digits a q m' line : List ℕ) → Type 0
AnsweredDigits (Ok n) e m digits a q m' line = Answered e m (bytes_of digits) a q m' line
AnsweredDigits (Err x) e m digits a q m' line = (line ≡ printed_bad) × (m' ≡ m)

-- a save into a buffer that holds i
pub record Saved (m i m' line : List ℕ) : Type 0 where
  pub outcome : Outcome
  pub image : List ℕ
  pub digest : List ℕ
  pub promised : SavePromise m outcome m' i image (zeros 32) digest
  pub said : line ≡ saved_line outcome (printed (answer_in outcome image (ascii "?"))) digest

pub record Loaded (m image digest m' line : List ℕ) : Type 0 where
  pub outcome : Outcome
  pub promised : LoadPromise m image digest outcome m'
  pub said : line ≡ printed (answer_in outcome (ascii "?") (ascii "?"))

unfoldable pub LoadedDigits : Result Load DecodeError → (m text m' line : List ℕ) → Type 0
LoadedDigits (Ok x) m text m' line =
    Loaded m (bytes_of (first_field text)) (bytes_of (behind_field text)) m' line
LoadedDigits (Err x) m text m' line = (line ≡ printed_bad) × (m' ≡ m)

-- a fresh guard, and the least lengths
pub record MadeFresh (m : List ℕ) (r : Lengths) (m' : List ℕ) : Type 0 where
  pub outcome : Outcome
  pub promised : FreshPromise m outcome m'
  pub answer : r.answer ≡ answer_length delivered
  pub request : r.request ≡ request_length delivered
