-- A message that comes in parts: its whole blocks are absorbed, and what is left finishes it.
-- Assumes nothing.
use Rattle.std.specs.Prelude.{List, ◌∷◌, ◌++◌, ℕ, ◌-◌, ◌*◌, ◌/◌, ◌%◌, length, replicate}
use Rattle.lists.specs.BigEndian.{big_endian}
use Rattle.compression.specs.declared.State.{State}
use Rattle.digest.specs.Sha256.{hash, bytes}

-- the padded end of a message of n bytes, of which m are the last
unfoldable pub ending : List ℕ → ℕ → List ℕ
ending m n = m ++ (0x80 ∷ (replicate ((119 - length m % 64) % 64) 0 ++ big_endian 8 (8 * n)))

-- the digest of a message of n bytes, of which m are the last, where s is the hash value after those before m
unfoldable pub finished : State → List ℕ → ℕ → List ℕ
finished s m n = bytes (hash s (ending m n) (length (ending m n) / 64))

-- the hash value after the blocks of p
unfoldable pub absorbed : State → List ℕ → State
absorbed s p = hash s p (length p / 64)
