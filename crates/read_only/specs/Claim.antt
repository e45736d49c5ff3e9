-- The read-only claim (SPECIFICATION 14.4), as a type: about a whole list of events from fresh, whatever the host
-- replies. Nodes and digests are at every point those of the image that the last done load was handed, byte for byte,
-- a fresh guard's where no load was done; and each save that is done gives that image and its digest. A stop takes
-- nothing from it: after one every save is refused.
-- Assumes nothing.
use Rattle.std.specs.Prelude.{◌≡◌, List, [], ◌∷◌, ℕ, length}
use Rattle.lists.specs.All.{All}
use Rattle.rules.specs.Skeleton.{Config, Event, call, reply, save, load, EventBytes, Answer, done, ask, refused}
use Rattle.rules.specs.Skeleton.{stopped}
use Rattle.rules.specs.Skeleton.{Outcome}
use Rattle.machine.specs.Machine.{State, image_of, fresh, guard}
use Rattle.machine.specs.Claim.{is_done}
use Rattle.read_only.specs.ReadOnly.{read_only_step}

-- the image that the last done load was handed; a load that is not done leaves it
unfoldable pub loaded_if : Answer → (handed held : List ℕ) → List ℕ
loaded_if (done n b) handed held = handed
loaded_if (ask q) handed held = held
loaded_if (refused n) handed held = held
loaded_if (stopped n) handed held = held

unfoldable pub last_loaded : List ℕ → Event → Outcome → List ℕ
last_loaded image (call s a q) o = image
last_loaded image (reply r a q) o = image
last_loaded image (save n) o = image
last_loaded image (load v i d) o = loaded_if o.answer i image

module _ (c : Config) where
  abbrev pub Guard : Type 0
  Guard = State (guard c)

  -- a save that is done gives this image and its digest
  unfoldable pub Gives : List ℕ → Event → Outcome → Type 0
  Gives image (call s a q) o = Unit {0}
  Gives image (reply r a q) o = Unit {0}
  Gives image (save n) o =
      is_done o.answer → o ≡ record { answer = done (length image) image; digest = c.digest image }
  Gives image (load v i d) o = Unit {0}

  unfoldable pub AsLoaded : List ℕ → Guard → List Event → Type 0
  AsLoaded image g [] = image_of c (guard c) g ≡ image
  AsLoaded image g (e ∷ es) =
      let r = read_only_step c (guard c) g e in
      (image_of c (guard c) g ≡ image) × Gives image e r.outcome
      × AsLoaded (last_loaded image e r.outcome) r.state es

  unfoldable pub ReadOnlyClaim : Type 0
  ReadOnlyClaim =
      (es : List Event) → All EventBytes es
      → AsLoaded (image_of c (guard c) (fresh c (guard c))) (fresh c (guard c)) es
