-- Replies that are right for the tables, from SPECIFICATION 5.5 alone: neither the rules that judge nor the step is named.
-- Assumes nothing.
use Rattle.std.specs.Prelude.{◌≡◌, ◌⊎◌, List, map, ◌++◌, ℕ, ◌+◌, ◌*◌, ◌<◌, ◌≤◌, length, replicate, pos, negsuc}
use Rattle.lists.specs.All.{All}
use Rattle.lists.specs.LittleEndian.{encode, decode}
use Rattle.lists.specs.Signed.{signed}
use Rattle.lists.specs.Form.{put_all}
use Rattle.lists.specs.Rearranged.{Rearranged}
use Rattle.filesystem.specs.Tables.{DESCRIPTORS, Node, OpenFile, Tables, node_at, children}
use Rattle.filesystem.specs.MemoryMaps.{Map, MAP_UNIT}
use Rattle.rules.specs.MapRules.{ADDRESSES}
use Rattle.rules.specs.Rules.{signed_of, Entry, entry_form, entry_of}

-- -28 as a signed number of this width: no room on the disk
abbrev pub Full : ℕ → List ℕ → Type 0
Full w r = (length r ≡ w) × (signed w (decode r) ≡ negsuc 27)

-- an id that is not 0, that is not -28, and that no node has
pub record RightId (w : ℕ) (t : Tables) (r : List ℕ) : Type 0 where
  pub long : length r ≡ w
  pub not-zero : decode r ≡ 0 → ⊥
  pub not_full : signed w (decode r) ≡ negsuc 27 → ⊥
  pub not_held : All (λ (n : Node). n.id ≡ decode r → ⊥) t.nodes

-- a descriptor 0 to 1,023 that no open file has
pub record RightDescriptor (t : Tables) (r : List ℕ) : Type 0 where
  pub descriptor : ℕ
  pub long : length r ≡ 4
  pub is : signed_of r ≡ pos descriptor
  pub low : descriptor < DESCRIPTORS
  pub not_held : All (λ (o : OpenFile). o.descriptor ≡ descriptor → ⊥) t.opens

-- one entry for each child, in any order: of the directory in place k
pub record RightListing (w : ℕ) (t : Tables) (r : List ℕ) (k : ℕ) : Type 0 where
  pub entries : List Entry
  pub bytes : r ≡ put_all (entry_form w) entries
  pub each_once : Rearranged entries (map entry_of (children t.nodes (node_at t.nodes k).id))

-- one map lies wholly before the other: they touch at most
abbrev pub Apart : Map → Map → Type 0
Apart m n = (m.address + m.size ≤ n.address) ⊎ (n.address + n.size ≤ m.address)

-- an address of 8 bytes and n zeros: a multiple of 4,096 and not 0, no byte beyond 2^64 - 1, no live map overlapped
pub record RightMap (ms : List Map) (n : ℕ) (r : List ℕ) : Type 0 where
  pub address : ℕ
  pub units : ℕ
  pub low : address < ADDRESSES
  pub bytes : r ≡ encode 8 address ++ replicate n 0
  pub whole_units : address ≡ units * MAP_UNIT
  pub not-zero : address ≡ 0 → ⊥
  pub ends-inside : address + n ≤ ADDRESSES
  pub apart : All (Apart (record { address = address; size = n })) ms
