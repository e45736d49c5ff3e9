-- What the code's last blocks hold.
-- Assumes nothing.
use Rattle.std.specs.Prelude.{List, ℕ, ◌*◌, ◌/◌, length, drop, replicate}
use Rattle.lists.specs.Parts.{overwrite}
use Rattle.digest.specs.Streaming.{ending}

-- x, and zeros behind it to 128 bytes
unfoldable pub with_zeros : List ℕ → List ℕ
with_zeros x = overwrite (replicate 128 0) 0 x

-- the ending after m's last whole block
unfoldable pub last_blocks : List ℕ → ℕ → List ℕ
last_blocks m n = with_zeros (drop (length m / 64 * 64) (ending m n))
