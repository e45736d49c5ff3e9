-- Demand 1: the page digest is SHA-256, a part of its own. That the code is this function, for every message, is the
-- contract of `digest::sha256`.
-- Assumes nothing.
use Rattle.std.specs.Prelude.{◌≡◌, List, ℕ, ◌%◌, length}
use Rattle.lists.specs.All.{All, Bytes}
use Rattle.digest.specs.Sha256.{sha256, H0}
use Rattle.digest.specs.Streaming.{finished}
use Rattle.digest.specs.laws.StreamingLaws.{absorbed_all, joined, streamed}
use Rattle.digest.specs.laws.Laws.{length-sha256, bytes-sha256}

pub record Demand1 : Type 0 where
  pub long : (m : List ℕ) → length (sha256 m) ≡ 32
  pub bytes : (m : List ℕ) → Bytes (sha256 m)
  -- parts of whole blocks one after the other, then the rest, give the digest of them all
  pub in_parts : (ps : List (List ℕ)) (m : List ℕ) → All (λ (p : List ℕ). length p % 64 ≡ 0) ps
      → finished (absorbed_all H0 ps) m (length (joined ps m)) ≡ sha256 (joined ps m)

pub demand-1 : Demand1
demand-1 = record { long = length-sha256; bytes = bytes-sha256; in_parts = streamed }
