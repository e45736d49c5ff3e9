-- `digest::padding::rest_of` meets its contract.
-- Assumes nothing.
use Rattle.std.proofs.Common.{arith, sym, ap, ◌∙◌, ◌≡◌, ◌-◌, ◌*◌, ◌/◌, ◌%◌, ℕ, List, ◌++◌}
use Rattle.std.proofs.Common.{length, replicate, drop, length-drop, take_all}
use Rattle.lists.specs.PartLaws.{overwrite_front}
use Rattle.digest.specs.Padding.{with_zeros}
use Rattle.digest.proofs.padding.rest_of.Goals as goal

pub returns : goal.returns
unfolding with_zeros
returns c =
    let m = c.args.m.now in
    let whole = length m / 64 * 64 in
    let e : length m - length m % 64 ≡ whole = omega arith in
    let n : length (drop whole m) ≡ length m % 64 = length-drop whole m ∙ omega arith in
    let same : c.copy_from_slice.new.self ≡ drop whole m =
    rw e at c.copy_from_slice.ensures.after ∙ take_all (length m - whole) (drop whole m) (omega arith) in
    ap (λ (x : List ℕ). x ++ drop (length m % 64) (replicate 128 0)) same
    ∙ sym (overwrite_front (replicate 128 0) (drop whole m) ∙ rw n)
