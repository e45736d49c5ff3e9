-- A memory of zeros, which a program has that forgets to make a guard fresh, is a stopped guard (SPECIFICATION 6.5).
-- Assumes nothing.
use Rattle.std.specs.Prelude.{◌≡◌, true, List, [], ◌∷◌, ℕ, eqb, take, drop}
use Rattle.std.proofs.Common.{ap, arith}
use Rattle.lists.specs.All.{All, both, none, all_take, all_drop}
use Rattle.lists.specs.LittleEndian.{decode}
use Rattle.lists.specs.Parts.{part}
use Rattle.lists.specs.Rows.{rows, table}
use Rattle.memory.specs.Layout.{mem_of, mem_from, nodes_at}
use Rattle.rules.specs.Skeleton.{Config}
use Rattle.guard_state.specs.State.{numbers_of, state_in, state_of}

abbrev pub Zeros : List ℕ → Type 0
Zeros m = All (λ (b : ℕ). b ≡ 0) m

decode-zeros : (l : List ℕ) → Zeros l → decode l ≡ 0
unfolding decode
decode-zeros [] none = omega arith
decode-zeros (b ∷ l) (both z h) = omega (arith, decode-zeros l h)

pub zeros_stopped : (c : Config) (m : List ℕ) → Zeros m → (state_of c m).skeleton.stopped ≡ true
unfolding state_of state_in numbers_of mem_of mem_from part table rows
zeros_stopped c m h =
    ap (λ (n : ℕ). eqb n 0)
    (decode-zeros (take 8 (drop 8 (drop 8 (take nodes_at (drop 0 m)))))
    (all_take 8 (all_drop 8 (all_drop 8 (all_take nodes_at (all_drop 0 h))))))
