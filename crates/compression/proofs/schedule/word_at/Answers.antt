-- `compression::schedule::word_at` meets its contract.
-- Assumes nothing.
use Rattle.std.proofs.Common.{arith, ap, ◌∙◌, ◌≡◌, ◌+◌, ◌-◌, ◌<◌, ℕ, List, get_or, drop}
use Rattle.std.proofs.Common.{add-zero, get_or-take, get_or-drop}
use Rattle.compression.specs.Compression.{word}
use Rattle.compression.proofs.schedule.word_at.Goals as goal

pub returns : goal.returns
unfolding word
returns c =
    let i = c.args.i in
    let m = c.args.m.now in
    let read : (k : ℕ) → k < 4 → get_or c.unwrap.result k 0 ≡ get_or m (i + k) 0 =
    λ k h. ap (λ (l : List ℕ). get_or l k 0) (rw c.unwrap.ensures at c.try_into.ensures.1).same
    ∙ get_or-take (i + 4 - i) (drop i m) k 0 (omega arith) ∙ get_or-drop i m k 0 in
    c.from_be_bytes.ensures
    ∙ rw (read 0 (omega arith), read 1 (omega arith), read 2 (omega arith), read 3 (omega arith), add-zero i)
