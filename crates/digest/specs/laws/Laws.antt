-- What callers want to know of a digest: it has 32 bytes.
-- Assumes nothing.
use Rattle.std.specs.Prelude.{List, ◌≡◌, refl, ℕ, length}
use Rattle.lists.specs.All.{Bytes, all_append}
use Rattle.lists.specs.BigEndian.{big_endian, bytes-big_endian}
use Rattle.digest.specs.Sha256.{bytes, sha256}
use Rattle.compression.specs.declared.State.{State}

pub length-sha256 : (m : List ℕ) → length (sha256 m) ≡ 32
unfolding sha256 bytes big_endian
length-sha256 m = refl

bytes-bytes : (s : State) → Bytes (bytes s)
unfolding bytes
bytes-bytes s =
    all_append (all_append
    (all_append (all_append (all_append (all_append (all_append (bytes-big_endian 4 _) (bytes-big_endian 4 _))
    (bytes-big_endian 4 _)) (bytes-big_endian 4 _)) (bytes-big_endian 4 _)) (bytes-big_endian 4 _))
    (bytes-big_endian 4 _)) (bytes-big_endian 4 _)

-- each element is below 256
pub bytes-sha256 : (m : List ℕ) → Bytes (sha256 m)
unfolding sha256
bytes-sha256 m = bytes-bytes _
