-- Laws of specs/Streaming.antt.
-- Assumes nothing.
use Rattle.std.specs.Prelude.{List, [], ◌∷◌, ◌++◌, ◌≡◌, refl, ℕ, ◌/◌, ◌%◌}
use Rattle.std.proofs.Common.{append_assoc, ◌∙◌, arith}
use Rattle.std.proofs.Math.Path.{ap}
use Rattle.std.proofs.Math.ListN.{length, length-append}
use Rattle.lists.specs.All.{All, none, both}
use Rattle.compression.specs.declared.State.{State}
use Rattle.digest.specs.Sha256.{pad, H0, hash, bytes, sha256}
use Rattle.digest.specs.laws.Blocks.{hash-append}
use Rattle.digest.specs.Streaming.{absorbed, ending, finished}

pub finished_all : (m : List ℕ) → finished H0 m (length m) ≡ sha256 m
unfolding finished ending sha256 pad
finished_all m = refl

module _ (xs m : List ℕ) (n : ℕ) (whole : length xs % 64 ≡ 0) where
  ending-append : xs ++ ending m n ≡ ending (xs ++ m) n
  unfolding ending
  ending-append =
      let e : length m % 64 ≡ length (xs ++ m) % 64 = omega (arith, length-append xs m) in
      rw (e, append_assoc)

  pub finished-append : (s : State) → finished (absorbed s xs) m n ≡ finished s (xs ++ m) n
  unfolding finished absorbed
  finished-append s =
      ap bytes
      (hash-append s xs (ending m n) (length xs / 64) (length (ending m n) / 64) (omega arith)
      ∙ rw ending-append (ap (hash s (ending (xs ++ m) n))
      (omega (arith, length-append xs (ending m n), ap length ending-append))))

-- the parts of a message one after the other
unfoldable pub joined : List (List ℕ) → List ℕ → List ℕ
joined [] m = m
joined (p ∷ ps) m = p ++ joined ps m

unfoldable pub absorbed_all : State → List (List ℕ) → State
absorbed_all s [] = s
absorbed_all s (p ∷ ps) = absorbed_all (absorbed s p) ps

-- parts of whole blocks, absorbed one after the other, and then the rest: the digest of the whole message
finished-joined : (s : State) (ps : List (List ℕ)) (m : List ℕ) (n : ℕ) → All (λ (p : List ℕ). length p % 64 ≡ 0) ps
    → finished (absorbed_all s ps) m n ≡ finished s (joined ps m) n
unfolding joined absorbed_all
finished-joined s [] m n none = refl
finished-joined s (p ∷ ps) m n (both h a) = finished-joined (absorbed s p) ps m n a
    ∙ finished-append p (joined ps m) n h s

pub streamed : (ps : List (List ℕ)) (m : List ℕ) → All (λ (p : List ℕ). length p % 64 ≡ 0) ps
    → finished (absorbed_all H0 ps) m (length (joined ps m)) ≡ sha256 (joined ps m)
streamed ps m a = finished-joined H0 ps m (length (joined ps m)) a ∙ finished_all (joined ps m)
