-- The rows in use: how many there are, and what stands in them.
-- Assumes nothing.
use Rattle.std.specs.Prelude.{◌≡◌, List, ℕ, ◌≤◌, ◌<◌, length, take}
use Rattle.std.proofs.Common.{arith, length-take-le, get_or-take}
use Rattle.filesystem.specs.Tables.{NODES, Node, OpenFile, no_node, no_open_file, node_at, open_at}
use Rattle.memory.specs.Layout.{mem_of, open_rows}
use Rattle.memory.specs.laws.MemLaws.{length-nodes, length-opens}

pub count-nodes : (m : List ℕ) (n : ℕ) → n ≤ NODES → length (take n (mem_of m).nodes) ≡ n
count-nodes m n h = length-take-le n (mem_of m).nodes (omega (arith, length-nodes m))

pub count-opens : (m : List ℕ) (o : ℕ) → o ≤ open_rows → length (take o (mem_of m).opens) ≡ o
count-opens m o h = length-take-le o (mem_of m).opens (omega (arith, length-opens m))

pub node_front_lem : (n : ℕ) (ns : List Node) (k : ℕ) → k < n → node_at (take n ns) k ≡ node_at ns k
unfolding node_at
node_front_lem n ns k h = get_or-take n ns k no_node h

pub open_front : (o : ℕ) (os : List OpenFile) (k : ℕ) → k < o → open_at (take o os) k ≡ open_at os k
unfolding open_at
open_front o os k h = get_or-take o os k no_open_file h
