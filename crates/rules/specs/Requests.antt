-- Host requests (SPECIFICATION 5.1) and what a pending call waits for.
-- Assumes nothing.
use Rattle.std.specs.Prelude.{Bool, false, List, [], ◌∷◌, ◌++◌, ℕ, ◌+◌, eqb}
use Rattle.lists.specs.LittleEndian.{encode}
use Rattle.filesystem.specs.Tables.{PAGE_BYTES}
use Rattle.rules.specs.Pages.{Change}

-- descriptors, pages and sizes have 4 bytes
unfoldable pub close_request : (descriptor : ℕ) → List ℕ
close_request d = 4 ∷ encode 4 d

unfoldable pub fetch_request : (descriptor page : ℕ) → List ℕ
fetch_request d i = 6 ∷ (encode 4 d ++ encode 4 i)

unfoldable pub is_fetch : List ℕ → Bool
is_fetch [] = false
is_fetch (kind ∷ s) = eqb kind 6

unfoldable pub store_request : (descriptor page size : ℕ) → List ℕ → List ℕ
store_request d i size bytes = 7 ∷ (encode 4 d ++ (encode 4 i ++ (encode 4 size ++ bytes)))

-- how long a store is
unfoldable pub store_length : ℕ
store_length = 13 + PAGE_BYTES

unfoldable pub cut_request : (descriptor size : ℕ) → List ℕ
cut_request d size = 8 ∷ (encode 4 d ++ encode 4 size)

-- a call that asks the host once and touches no page; k is a node's place, o an open file's
pub data Question : Type 0 where
  creating : (parent kind mode : ℕ) (name : List ℕ) → Question
  opening : (k rights : ℕ) → Question
  closing : (o : ℕ) → Question
  removing : (k : ℕ) → Question
  changing : (k mode : ℕ) → Question
  listing : (k : ℕ) → Question
  stating : (k : ℕ) → Question
  mapping : (size : ℕ) → Question
  unmapping : (address : ℕ) → Question
  renaming : (k parent : ℕ) (name : List ℕ) → Question

-- the pending call and how far it has come: i is the page that was asked last
pub data Pending : Type 0 where
  idle : Pending
  asked : Question → Pending
  reading : (k o position n i : ℕ) → Pending
  fetching storing : (k o : ℕ) (change : Change) (i : ℕ) → Pending
  cutting : (k o : ℕ) (change : Change) → Pending
