-- What a row begins with: nodes with what is in them, and open files. Their image.
use Rattle.std.specs.Prelude.{List, [], ◌∷◌, ◌++◌, map, ℕ, length}
use Rattle.std.proofs.Math.Option.{Option, some, none}
use Prim.Native.String.{String}
use Rattle.filesystem.specs.Tables.{Node, OpenFile}
use Rattle.filesystem.specs.MemoryMaps.{Map}
use Rattle.rule_examples.specs.Bytes.{bytes_of, four, pages, digest}

-- Nodes with what is in them. A `sparse` file has zeros behind these bytes; of a `sized` one the bytes are not looked at.
pub record Item : Type 0 where
  pub node : Node
  pub bytes : Option (List ℕ)

abbrev pub node : (id parent kind mode size : ℕ) → List ℕ → Node
node i p k m s n = record { id = i; parent = p; kind = k; mode = m; size = s; name = n }

abbrev pub folder : (id parent mode : ℕ) → String → Item
folder i p m n = record { node = node i p 2 m 0 (bytes_of n); bytes = some [] }

abbrev pub file : (id parent mode : ℕ) → String → List ℕ → Item
file i p m n b = record { node = node i p 1 m (length b) (bytes_of n); bytes = some b }

-- the tree's list ends early, which costs less: what is read past it is 0
abbrev pub sparse : (id parent mode : ℕ) → String → (size : ℕ) → List ℕ → Item
sparse i p m n s b = record { node = node i p 1 m s (bytes_of n); bytes = some b }

abbrev pub sized : (id parent mode : ℕ) → String → (size : ℕ) → Item
sized i p m n s = record { node = node i p 1 m s (bytes_of n); bytes = none }

abbrev pub root_of : (mode : ℕ) → Item
root_of m = folder 1 0 m ""

abbrev pub root : Item
root = root_of 7

-- an open file: its handle is the file's id
abbrev pub opened : (handle descriptor rights cursor : ℕ) → OpenFile
opened h d r c = record { handle = h; descriptor = d; rights = r; cursor = c }

-- what a row begins with: nothing is asked, nothing has stopped
pub record Given : Type 0 where
  pub items : List Item
  pub opens : List OpenFile
  pub maps : List Map

abbrev pub given : List Item → List OpenFile → Given
given is os = record { items = is; opens = os; maps = [] }

-- a map of this size at an address; the root alone beside these
abbrev pub map_at : (address size : ℕ) → Map
map_at a n = record { address = a; size = n }

abbrev pub mapped : List Map → Given
mapped ms = record { items = root ∷ []; opens = []; maps = ms }

-- the image of these nodes, digests worked out from their bytes
abbrev pub record_of : Node → List ℕ
record_of n = four n.id ++ (four n.parent ++ (n.kind ∷ n.mode ∷ (four n.size ++ (length n.name ∷ n.name))))

unfoldable pub concatenated : List (List ℕ) → List ℕ
concatenated [] = []
concatenated (b ∷ bs) = b ++ concatenated bs

unfoldable pub bytes_in : Item → List ℕ
bytes_in i = elim i.bytes [ none ↦ [] | some b ↦ b ]

unfoldable pub digests_in : List Item → List (List ℕ)
digests_in [] = []
digests_in (i ∷ is) = map digest (pages i.node.size (bytes_in i)) ++ digests_in is

abbrev pub section : List (List ℕ) → List ℕ
section bs = four (length bs) ++ concatenated bs

abbrev pub image_with : List Item → List (List ℕ) → List ℕ
image_with is ds = section (map (λ i. record_of i.node) is) ++ section ds

abbrev pub image_of : List Item → List ℕ
image_of is = image_with is (digests_in is)
