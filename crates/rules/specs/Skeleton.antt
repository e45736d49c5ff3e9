-- What the guard and the reference tree share: what is fed to them, what comes back, and what they hold beside pages.
-- Assumes nothing.
use Rattle.std.specs.Prelude.{◌≡◌, Bool, true, false, List, [], ℕ, ◌+◌, ◌-◌, ◌*◌}
use Rattle.std.proofs.Common.{sym}
use Rattle.lists.specs.All.{Bytes}
use Rattle.lists.specs.Parts.{overwrite}
use Rattle.filesystem.specs.Tables.{NODES, NAME_BYTES, Tables, fresh_tables}
use Rattle.filesystem.specs.Image.{Version}
use Rattle.filesystem.specs.MemoryMaps.{Map}
use Rattle.rules.specs.Requests.{store_length, Pending, idle}

-- what may vary: the digest, and the width of ids in bytes
pub record Config : Type 0 where
  pub digest : List ℕ → List ℕ
  pub width : ℕ

-- SPECIFICATION 1.2: calls and replies with the lengths of the answer and the request buffer, saves with the length of theirs
pub data Event : Type 0 where
  call reply : (bytes : List ℕ) (answer request : ℕ) → Event
  save : (buffer : ℕ) → Event
  load : Version → (image digest : List ℕ) → Event

-- what is handed in is bytes
unfoldable pub EventBytes : Event → Type 0
EventBytes (call s a q) = Bytes s
EventBytes (reply r a q) = Bytes r
EventBytes (save n) = Unit {0}
EventBytes (load v i d) = Bytes i × Bytes d

-- exactly one of four (SPECIFICATION 1.3)
pub data Answer : Type 0 where
  done : (number : ℕ) (bytes : List ℕ) → Answer
  ask : (request : List ℕ) → Answer
  refused : (number : ℕ) → Answer
  stopped : (reason : ℕ) → Answer

-- a save is done with the image as its bytes, and with the image's digest; every other outcome has no digest
pub record Outcome : Type 0 where
  pub answer : Answer
  pub digest : List ℕ

abbrev pub plain : Answer → Outcome
plain a = record { answer = a; digest = [] }

-- the bytes that go to the front of the answer buffer (a save's: its own buffer), and of the request buffer
unfoldable pub answer_bytes : Answer → List ℕ
answer_bytes (done n b) = b
answer_bytes (ask q) = []
answer_bytes (refused n) = []
answer_bytes (stopped n) = []

unfoldable pub request_bytes : Answer → List ℕ
request_bytes (done n b) = []
request_bytes (ask q) = q
request_bytes (refused n) = []
request_bytes (stopped n) = []

-- what lies behind is untouched (SPECIFICATION 6.3)
abbrev pub at_front : List ℕ → List ℕ → List ℕ
at_front bytes buffer = overwrite buffer 0 bytes

-- The caller's buffers after a call or a reply: bytes at the front of one, the other untouched; after a refusal or a stop both are. A save's
-- own buffer, likewise.
pub record Buffers : Type 0 where
  pub answer : List ℕ
  pub request : List ℕ

unfoldable pub buffers_after : Answer → Buffers → Buffers
buffers_after (done n b) x = record { answer = at_front b x.answer; request = x.request }
buffers_after (ask q) x = record { answer = x.answer; request = at_front q x.request }
buffers_after (refused n) x = x
buffers_after (stopped n) x = x

unfoldable pub image_after : Answer → List ℕ → List ℕ
image_after a buffer = at_front (answer_bytes a) buffer

-- the least lengths of the two buffers: the longest listing, the longest request (SPECIFICATION 6.2)
unfoldable pub answer_length : Config → ℕ
answer_length c = (NODES - 1) * (c.width + (2 + NAME_BYTES))

unfoldable pub request_length : Config → ℕ
request_length c = store_length

pub record Skeleton : Type 0 where
  pub tables : Tables
  pub pending : Pending
  pub stopped : Bool
  -- the maps that live, in the order in which they began
  pub maps : List Map

-- a call waits for its reply; none does, with these tables; a stop
abbrev pub waiting : Skeleton → Pending → Skeleton
waiting sk p = record { tables = sk.tables; pending = p; stopped = false; maps = sk.maps }

abbrev pub resting : Skeleton → Tables → Skeleton
resting sk t = record { tables = t; pending = idle; stopped = false; maps = sk.maps }

abbrev pub halted : Skeleton → Skeleton
halted sk = record { tables = sk.tables; pending = idle; stopped = true; maps = sk.maps }

-- a map began or ended
abbrev pub remapped : Skeleton → List Map → Skeleton
remapped sk ms = record { tables = sk.tables; pending = idle; stopped = false; maps = ms }

pub resting_same : (sk : Skeleton) → sk.pending ≡ idle → sk.stopped ≡ false → resting sk sk.tables ≡ sk
resting_same sk quiet running = λ x. record { tables = sk.tables; pending = sym quiet x; stopped = sym running x; maps = sk.maps }

abbrev pub fresh_skeleton : Skeleton
fresh_skeleton = record { tables = fresh_tables; pending = idle; stopped = false; maps = [] }
