-- SHA-256 as FIPS 180-4 (August 2015) defines it, on messages that are lists of bytes. §3.2, §4 and the steps of
-- §6.2.2, which
-- work on one block, are in crate compression, specs/Compression.antt. Assumes nothing.
use Rattle.std.specs.Prelude.{List, ◌∷◌, ◌++◌, ℕ, zero, suc, ◌-◌, ◌*◌, ◌/◌, ◌%◌, length, replicate}
use Rattle.lists.specs.BigEndian.{big_endian}
use Rattle.compression.specs.Compression.{block, compress}
use Rattle.compression.specs.declared.State.{State}

-- §5.1.1: a one bit, the least number of zero bits, and the length in bits as a 64-bit number, so that the length is a
-- multiple
-- of 512 bits
unfoldable pub pad : List ℕ → List ℕ
pad m = m ++ (0x80 ∷ (replicate ((119 - length m % 64) % 64) 0 ++ big_endian 8 (8 * length m)))

-- §5.3.3: the initial hash value
unfoldable pub H0 : State
H0 =
    record {
      a = 0x6a09e667;
      b = 0xbb67ae85;
      c = 0x3c6ef372;
      d = 0xa54ff53a;
      e = 0x510e527f;
      f = 0x9b05688c;
      g =
          0x1f83d9ab;
      h = 0x5be0cd19;
    }

-- §6.2.2: the hash value after the blocks 0 to i - 1 of p (§5.2.1), from s
unfoldable pub hash : State → List ℕ → ℕ → State
hash s p zero = s
hash s p (suc i) = compress (hash s p i) (block p (64 * i))

-- the words of a hash value, one after the other
unfoldable pub bytes : State → List ℕ
bytes s =
    big_endian 4 s.a ++ big_endian 4 s.b ++ big_endian 4 s.c ++ big_endian 4 s.d ++ big_endian 4 s.e
    ++ big_endian 4 s.f ++ big_endian 4 s.g ++ big_endian 4 s.h

-- §6.2: the message digest
unfoldable pub sha256 : List ℕ → List ℕ
sha256 m = bytes (hash H0 (pad m) (length (pad m) / 64))
