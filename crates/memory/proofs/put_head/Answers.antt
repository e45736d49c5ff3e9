-- `memory::put_head` meets its contract. Assumes nothing.
use native.Mathlib.Omega.{arith}
use Prim.Native.Nat.{ℕ, ◌*◌}
use mathlib.Core.Path.{ap, ◌∙◌}
use Rattle.lists.specs.Parts.{overwrite}
use lib.ListN.{set}
use Rattle.memory.specs.Layout.{with_head, mem_of}
use Rattle.memory.specs.laws.MemLaws.{mem_number}
use Rattle.lists.specs.LittleEndian.{encode, length-encode, decode-encode}
use Rattle.memory.proofs.put_head.Goals as goal

pub returns : goal.returns
returns c =
    let a = c.args in
    let e = c.put.ensures ∙ ap (overwrite a.m.now (a.k * 8))
    c.bytes8-b.ensures in (
      ap mem_of e ∙ mem_number a.m.now (encode 8 a.x) (omega arith) a.k (length-encode 8 a.x) (omega arith)
          ∙ ap (λ (x : ℕ). with_head (set (mem_of a.m.now).head a.k x) (mem_of a.m.now))
          (decode-encode 8 a.x (omega arith)),
      omega arith,
    )
