-- `memory::set_mode` meets its contract. Assumes nothing.
use native.Mathlib.Omega.{arith}
use Prim.Native.Nat.{◌+◌, ◌*◌}
use mathlib.Core.Path.{◌≡◌, sym, ap, ◌∙◌}
use Rattle.lists.specs.Parts.{overwrite}
use Rattle.memory.specs.Records.{node_width}
use Rattle.memory.specs.Layout.{mem_of, nodes_at}
use Rattle.memory.specs.laws.MemLaws.{mem_mode}
use Rattle.lists.specs.LittleEndian.{encode}
use lib.ListN.{set, length-set}
use Rattle.lists.specs.PartLaws.{overwrite_one}
use Rattle.memory.specs.laws.RecordLaws.{encode_byte}
use Rattle.memory.proofs.set_mode.Goals as goal

pub returns : goal.returns
returns c =
    let a = c.args in
    let at = nodes_at + a.i * node_width + 17 in
    let e : set a.m.now at a.mode ≡ overwrite a.m.now at (encode 1 a.mode) =
    sym (ap (overwrite a.m.now at) (encode_byte a.mode (omega arith)) ∙ overwrite_one a.m.now at a.mode
    (omega arith)) in
    (ap mem_of e ∙ mem_mode a.m.now (omega arith) a.i a.mode (omega arith) (omega arith), simp length-set)
