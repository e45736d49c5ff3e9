-- `memory::node_row` meets its contract. Assumes nothing.
use native.Mathlib.Omega.{arith}
use mathlib.Core.Path.{◌≡◌, refl}
use Prim.Native.Nat.{ℕ}
use lib.ListN.{replicate, set}
use Rattle.lists.specs.LittleEndian.{encode}
use Rattle.lists.specs.Parts.{overwrite}
use Rattle.memory.specs.Records.{node_front}
use Rattle.memory.specs.laws.RecordLaws.{written-node}
use Rattle.memory.proofs.node_row.Goals as goal

-- field by field, the row up to its name
front-written : (id parent kind mode size n : ℕ)
    → set (overwrite (set (set
    (overwrite (overwrite (replicate 56 0) 0 (encode 8 id)) 8 (encode 8 parent)) 16 kind) 17 mode)
    18 (encode 4 size)) 22 n
    ≡ overwrite (replicate 56 0) 0 (node_front id parent kind mode size n)
unfolding overwrite encode node_front
front-written id parent kind mode size n = refl

pub returns : goal.returns
returns c =
    let a = c.args in
    let s = a.name.now in
    rw (
      c.put.ensures,
      c.put_bytes-3.ensures,
      c.put_bytes-2.ensures,
      c.put_bytes.ensures,
      c.bytes8.ensures,
      c.bytes8-2.ensures,
      c.bytes4.ensures,
      front-written,
    )
    (written-node a.id a.parent a.kind a.mode a.size s (replicate 56 0) (omega arith) (omega arith) (omega arith)
    (omega arith))
