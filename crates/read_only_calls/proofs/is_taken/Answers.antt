-- `read_only_calls::is_taken` meets its contract. Assumes nothing.
use native.Mathlib.Omega.{arith}
use Rattle.read_only_calls.specs.laws.RefusalLaws.{is_taken, handle_taken, node-taken}
use Rattle.read_only_calls.specs.laws.RefusalLaws.{opening_taken}
use Rattle.read_only_calls.proofs.is_taken.Goals as goal

pub returns-in-3 : goal.returns-in-3
returns-in-3 c =
    let s = c.args.call.now in
    record {
      taken = λ h. opening_taken s (omega arith) (omega (arith, c.in-3.is)) (c.opens_to_read.ensures h);
      other = λ _ l. absurd (omega (arith, c.in-3.is, l));
    }

pub returns-in-4-to-6 : goal.returns-in-4-to-6
returns-in-4-to-6 c =
    let s = c.args.call.now in
    is_taken s (handle_taken s (omega arith) (omega arith) (omega arith))

pub returns-in-12-to-13 : goal.returns-in-12-to-13
returns-in-12-to-13 c =
    let s = c.args.call.now in
    is_taken s (node-taken s (omega arith) (omega arith) (omega arith))
