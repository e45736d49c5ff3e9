-- `memory::stage_digest` meets its contract. Assumes nothing.
use native.Mathlib.Omega.{arith}
use Prim.Native.Nat.{◌+◌, ◌*◌}
use mathlib.Core.Path.{◌≡◌, ap, ◌∙◌}
use Rattle.memory.specs.Layout.{mem_of, digest_width}
use Rattle.memory.specs.laws.MemLaws.{mem_staged}
use lib.ListN.{length}
use Rattle.memory.specs.Layout.{data_size}
use borrow.Author.Rules.{rules}
use Rattle.memory.proofs.stage_digest.Goals as goal

pub returns : goal.returns
returns c =
    let a = c.args in
    let e : length a.x ≡ digest_width = search rules in (
      ap mem_of c.put.ensures ∙ mem_staged a.m.now a.x (omega arith)
          (data_size + a.k * digest_width) (omega arith),
      omega arith,
    )
