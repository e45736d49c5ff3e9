-- The digest of the page of zeros, computed by the standard's definitions: seventeen blocks, which take seconds.
-- Assumes nothing.
use Rattle.std.specs.Prelude.{◌≡◌, refl, [], ◌∷◌}
use Rattle.lists.specs.BigEndian.{big_endian}
use Rattle.compression.specs.Compression.{K, word, block, next_word, schedule, round, rounds, compress}
use Rattle.digest.specs.Sha256.{H0, pad, hash, bytes, sha256}
use Rattle.zero_page.specs.ZeroPage.{zero_page}

pub zero_digest_lem : sha256 zero_page ≡
    0x5f ∷ 0x70 ∷ 0xbf ∷ 0x18 ∷ 0xa0 ∷ 0x86 ∷ 0x00 ∷ 0x70 ∷
    0x16 ∷ 0xe9 ∷ 0x48 ∷ 0xb0 ∷ 0x4a ∷ 0xed ∷ 0x3b ∷ 0x82 ∷
    0x10 ∷ 0x3a ∷ 0x36 ∷ 0xbe ∷ 0xa4 ∷ 0x17 ∷ 0x55 ∷ 0xb6 ∷
    0xcd ∷ 0xdf ∷ 0xaf ∷ 0x10 ∷ 0xac ∷ 0xe3 ∷ 0xc6 ∷ 0xef ∷ []
unfolding zero_page sha256 pad hash bytes H0 K word block next_word schedule round rounds compress big_endian
zero_digest_lem = refl
