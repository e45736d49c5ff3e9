-- `handle_calls::judge_end` meets its contract. Assumes nothing.
use native.Mathlib.Omega.{arith}
use mathlib.Core.Path.{refl, sym}
use lib.ListN.{take}
use Rattle.memory.specs.Layout.{mem_of}
use Rattle.handle_calls.specs.laws.HandledLaws.{end_past, end_within_lem}
use Rattle.handle_calls.proofs.judge_end.Goals as goal

pub returns-then-size_at-position : goal.returns-then-size_at-position
returns-then-size_at-position c =
    let a = c.args in record {
      by_index = λ w s. sym (end_past (take a.n (mem_of a.m.now).nodes) a.handle a.k a.position _ _
          (c.file_place-node.ensures w s) c.size_at.ensures (omega arith));
      passed = tt;
    }

pub returns : goal.returns
returns c =
    let a = c.args in record {
      by_index = λ w s. sym (end_within_lem (take a.n (mem_of a.m.now).nodes) a.handle a.k a.position _ _
          (c.file_place-node.ensures w s) c.size_at.ensures (omega arith));
      passed = (refl, omega arith);
    }
