-- The machine's states between events: a call waits for a reply, none does, the guard has stopped. Each is the state of
-- what `apply` answers;
-- the answer itself does not matter to it.
--   waits, ends, stops    the state as a call waits, is done, or stops the guard
--   remaps                the state as a call is done that left these maps
--   Turns m f             f makes the state that a memory has now of the one that it had, and it is as long as it was
--   Waits m p a           in it a call waits: p is pending, a is gathered
-- Assumes nothing.
use Rattle.std.specs.Prelude.{false, ◌≡◌, List, [], ℕ}
use Rattle.numbers.specs.Slices.{Lent, KeepsLength}
use Rattle.filesystem.specs.Tables.{Tables}
use Rattle.rules.specs.Requests.{Pending, idle}
use Rattle.filesystem.specs.MemoryMaps.{Map}
use Rattle.rules.specs.Skeleton.{Config, done, remapped}
use Rattle.machine.specs.Machine.{State, Gathered, asking, ending, stopping, guard as digest_store}
use Rattle.tables.specs.View.{View}
use Rattle.guard_state.specs.State.{gathered_none, maps_in, state_with, state_of}

module _ (c : Config) (s : State (digest_store c)) where
  unfoldable pub waits : Pending → Gathered → State (digest_store c)
  waits p a = (asking c (digest_store c) s [] p a).state

  unfoldable pub ends : Tables → List (List (List ℕ)) → State (digest_store c)
  ends t x = (ending c (digest_store c) s (done 0 []) t x).state

  unfoldable pub stops : State (digest_store c)
  stops = (stopping c (digest_store c) s 0).state

  unfoldable pub remaps : List Map → State (digest_store c)
  remaps ms = record { skeleton = remapped s.skeleton ms; contents = s.contents; progress = gathered_none; saves = tt }

-- no call is pending, over these rows
unfoldable pub resting_state : (c : Config) → View → State (digest_store c)
resting_state c v = state_with c v (maps_in v) idle false gathered_none

abbrev pub Turns : Lent → ((c : Config) → State (digest_store c) → State (digest_store c)) → Type 0
Turns m f = ((c : Config) → state_of c m.exit.now ≡ f c (state_of c m.entry.now)) × KeepsLength m

abbrev pub Waits : Lent → Pending → Gathered → Type 0
Waits m p a = ((c : Config) → state_of c m.exit.now ≡ waits c (state_of c m.entry.now) p a) × KeepsLength m
