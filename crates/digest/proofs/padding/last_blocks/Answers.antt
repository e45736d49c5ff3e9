-- `digest::padding::last_blocks` meets its contract.
-- Assumes nothing.
use Rattle.std.proofs.Common.{arith, ap, ◌∙◌, ◌≡◌, ◌+◌, ◌-◌, ◌*◌, ◌/◌, ◌%◌, ℕ, length, set}
use Rattle.lists.specs.Parts.{overwrite}
use Rattle.lists.specs.BigEndian.{big_endian, length-big_endian}
use Rattle.digest.proofs.Endings.{ended, length_bytes, put_overwrite}
use Rattle.digest.proofs.padding.last_blocks.Goals as goal

pub returns : goal.returns
returns c =
    let m = c.args.m.now in
    let n = c.args.n in
    let t = c.rest_of-t in
    let rest = length m % 64 in
    let end : ℕ = 56 + rest / 56 * 64 in
    let bytes : c.copy_from_slice.new.self ≡ big_endian 8 (8 * n) =
    c.copy_from_slice.ensures.after ∙ c.to_be_bytes.ensures ∙ length_bytes n in
    let k : 8 ≡ end + 8 - end = omega arith in
    ended m n t.result _ end t.ensures (omega arith)
    (put_overwrite (set t.result rest 128) _ end (end + 8 - end) (ap length bytes ∙ length-big_endian 8 (8 * n) ∙ k)
    ∙ ap (overwrite (set t.result rest 128) end) bytes)
