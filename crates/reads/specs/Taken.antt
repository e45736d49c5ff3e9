-- A page of a read that came, taken: what every consistent state has of the read, and what the machine makes of the
-- reply.
-- Assumes nothing.
use Rattle.std.specs.Prelude.{◌≡◌, List, ℕ, ◌+◌, ◌*◌, ◌<◌, ◌≤◌, take}
use Rattle.numbers.specs.Slices.{Lent}
use Rattle.memory.specs.Memories.{was}
use Rattle.rules.specs.Skeleton.{Config}
use Rattle.machine.specs.Machine.{State, Result, read_on, guard as digest_store}
use Rattle.guard_state.specs.State.{state_of, gathered_read}
use Rattle.filesystem.specs.Tables.{PAGE_BYTES, FILE_BYTES}

-- page i lies in n bytes from a position on, and they in a file
pub record InRead (p n i : ℕ) : Type 0 where
  pub from : p < i * PAGE_BYTES + PAGE_BYTES
  pub to : i * PAGE_BYTES < p + n
  pub most : p + n ≤ FILE_BYTES

-- the machine takes page i, of the bytes x, of a read of n bytes from p on
abbrev pub page_taken : (c : Config) → State (digest_store c) → (node opened p n i : ℕ) → (x : List ℕ)
    → Result (digest_store c)
page_taken c s k o p n i x = read_on c (digest_store c) s k o p n i ((digest_store c).gather s.progress p n i x)

-- the first n bytes that are staged are those that the read has gathered
abbrev pub Gathers : Config → Lent → ℕ → Type 0
Gathers c m n = (state_of c m.entry.now).progress ≡ gathered_read (take n (was m.entry.now).staged)
