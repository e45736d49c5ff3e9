-- The guard's memory as contracts speak of it.
--   IsMemory m              the bytes are long enough to be one
--   was m                   what stands in them; of what a function may write, `m.old` has them at its entry
--   nodes_of n m, opens_of  their first n rows
--   Becomes m f             f makes what stands in the slice now of what stood there, and it is as long as it was
-- Assumes nothing.
use Rattle.std.specs.Prelude.{◌≡◌, List, ℕ, ◌≤◌, length, take}
use Rattle.numbers.specs.Slices.{Lent, KeepsLength}
use Rattle.filesystem.specs.Tables.{Node, OpenFile}
use Rattle.memory.specs.Layout.{Mem, mem_of, memory_size}

abbrev pub IsMemory : List ℕ → Type 0
IsMemory m = memory_size ≤ length m

abbrev pub was : List ℕ → Mem
was m = mem_of m

abbrev pub nodes_of : ℕ → List ℕ → List Node
nodes_of n m = take n (mem_of m).nodes

abbrev pub opens_of : ℕ → List ℕ → List OpenFile
opens_of n m = take n (mem_of m).opens

abbrev pub Becomes : Lent → (Mem → Mem) → Type 0
Becomes m f = (mem_of m.exit.now ≡ f (mem_of m.entry.now)) × KeepsLength m
