-- The nodes and digests that go into an image, and how long a record is.
--   nodes_in, image_in    what goes into an image
--   record_length        how long a record is
-- Assumes nothing.
use Rattle.std.specs.Prelude.{ℕ, ◌+◌, List, ◌++◌, length, take}
use Rattle.lists.specs.LittleEndian.{encode}
use Rattle.filesystem.specs.Tables.{Node, page_total}
use Rattle.filesystem.specs.Image.{Layout, Image, maker_bytes, front_length}
use Rattle.memory.specs.Layout.{mem_of}

-- the nodes in use, and their digests
abbrev pub nodes_in : ℕ → List ℕ → List Node
nodes_in n m = take n (mem_of m).nodes

abbrev pub image_in : ℕ → List ℕ → Image
image_in n m = (nodes_in n m, take (page_total (nodes_in n m)) (mem_of m).digests)

abbrev pub record_length : Layout → Node → ℕ
record_length y n = front_length y + length n.name

-- a record between its ids and its name
unfoldable pub middle : Layout → (kind mode size n : ℕ) → List ℕ
middle y kind mode size n = encode 1 kind ++ (encode 1 mode ++ (maker_bytes y ++ (encode 4 size ++ encode 1 n)))
