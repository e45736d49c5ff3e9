-- Numbers of any width, the most significant byte first.
-- Assumes nothing.
use Rattle.std.specs.Prelude.{◌≡◌, refl, List, [], ◌∷◌, ℕ, zero, suc, ◌/◌, ◌%◌, ◌^◌, length}
use Rattle.std.proofs.Common.{ap, arith}
use Rattle.lists.specs.All.{both, none, Bytes}

-- x as w bytes; of a larger number the w low bytes
unfoldable pub big_endian : ℕ → ℕ → List ℕ
big_endian zero x = []
big_endian (suc w) x = x / 256 ^ w % 256 ∷ big_endian w x

pub length-big_endian : (w x : ℕ) → length (big_endian w x) ≡ w
unfolding big_endian
length-big_endian zero x = refl
length-big_endian (suc w) x = ap suc (length-big_endian w x)

pub bytes-big_endian : (w x : ℕ) → Bytes (big_endian w x)
unfolding big_endian
bytes-big_endian zero x = none
bytes-big_endian (suc w) x = both {x = x / 256 ^ w % 256} (omega arith) (bytes-big_endian w x)
