-- The promises of specs/Promise.antt as the entries' contracts have them, over the slices that they are lent: memory m,
-- a call's or a reply's bytes b, answer buffer a, request buffer q, image i, digest d.
--   Takes e m b a q r    what takes a call or a reply (e) inside an entry, on a memory that is long enough
--   Called, ReaderCalled, Replied, Saved, Loaded, MadeFresh    what the entries promise
-- Assumes nothing.
use Rattle.std.specs.Prelude.{List, ℕ, length}
use Rattle.numbers.specs.Slices.{Lent}
use Rattle.rules.specs.Skeleton.{Event, call, reply}
use Rattle.outcomes.specs.declared.Outcome.{Outcome}
use Rattle.guard.specs.Promise.{held, buffers, Enters, Promise, ReaderPromise}
use Rattle.guard.specs.Promise.{FreshPromise, SavePromise, LoadPromise}

abbrev event_of : (List ℕ → ℕ → ℕ → Event) → (b : List ℕ) → (a q : Lent) → Event
event_of e b a q = e b (length a.entry.now) (length q.entry.now)

abbrev pub Takes : (List ℕ → ℕ → ℕ → Event) → (m : Lent) → (b : List ℕ) → (a q : Lent) → Outcome → Type 0
Takes e m b a q r =
    Enters (held m.entry.now) (event_of e b a q) r (held m.exit.now)
    (buffers a.entry.now q.entry.now) (buffers a.exit.now q.exit.now)

abbrev Entered : (List ℕ → ℕ → ℕ → Event) → (m : Lent) → (b : List ℕ) → (a q : Lent) → Outcome → Type 0
Entered e m b a q r =
    Promise m.entry.now (event_of e b a q) r m.exit.now
    (buffers a.entry.now q.entry.now) (buffers a.exit.now q.exit.now)

abbrev pub Called : (m : Lent) → (b : List ℕ) → (a q : Lent) → Outcome → Type 0
Called m b a q r = Entered call m b a q r

abbrev pub ReaderCalled : (m : Lent) → (b : List ℕ) → (a q : Lent) → Outcome → Type 0
ReaderCalled m b a q r =
    ReaderPromise m.entry.now (event_of call b a q) r m.exit.now
    (buffers a.entry.now q.entry.now) (buffers a.exit.now q.exit.now)

abbrev pub Replied : (m : Lent) → (b : List ℕ) → (a q : Lent) → Outcome → Type 0
Replied m b a q r = Entered reply m b a q r

abbrev pub Saved : (m i d : Lent) → Outcome → Type 0
Saved m i d r =
    SavePromise m.entry.now r m.exit.now i.entry.now i.exit.now d.entry.now d.exit.now

abbrev pub Loaded : (m : Lent) → (i d : List ℕ) → Outcome → Type 0
Loaded m i d r = LoadPromise m.entry.now i d r m.exit.now

abbrev pub MadeFresh : Lent → Outcome → Type 0
MadeFresh m r = FreshPromise m.entry.now r m.exit.now
