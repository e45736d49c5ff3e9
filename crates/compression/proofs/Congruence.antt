-- Where a function's calls are too many for `cc`, a law over variables: windows of equal words, and sixteen rounds in
-- turn.
-- Assumes nothing.
use Rattle.std.proofs.Common.{◌≡◌, ℕ, [], ◌∷◌, slice_index}
use Rattle.compression.specs.Compression.{round}
use Rattle.compression.specs.Windows.{Window, slid, slid_four, sixteen, Rolling}
use Rattle.compression.specs.declared.State.{State}

pub window-equal : {a0 a1 a2 a3 a4 a5 a6 a7 a8 a9 a10 a11 a12 a13 a14 a15 b0 b1 b2 b3 b4 b5 b6 b7 b8 b9 b10 b11 b12 b13
    b14 b15 : ℕ} → a0 ≡ b0 → a1 ≡ b1 → a2 ≡ b2 → a3 ≡ b3 → a4 ≡ b4 → a5 ≡ b5 → a6 ≡ b6 → a7 ≡ b7 → a8 ≡ b8 → a9 ≡ b9
    → a10 ≡ b10 → a11 ≡ b11 → a12 ≡ b12 → a13 ≡ b13 → a14 ≡ b14 → a15 ≡ b15
    → ◌≡◌ {A = Window} (a0 ∷ a1 ∷ a2 ∷ a3 ∷ a4 ∷ a5 ∷ a6 ∷ a7 ∷ a8 ∷ a9 ∷ a10 ∷ a11 ∷ a12 ∷ a13 ∷ a14 ∷ a15 ∷ [])
    (b0 ∷ b1 ∷ b2 ∷ b3 ∷ b4 ∷ b5 ∷ b6 ∷ b7 ∷ b8 ∷ b9 ∷ b10 ∷ b11 ∷ b12 ∷ b13 ∷ b14 ∷ b15 ∷ [])
window-equal e0 e1 e2 e3 e4 e5 e6 e7 e8 e9 e10 e11 e12 e13 e14 e15 = cc

-- sixteen rounds with a window that moves on after each
pub rolling_steps : (s : State) (k w : Window) {s1 s2 s3 s4 s5 s6 s7 s8 s9 s10 s11 s12 s13 s14 s15 s16 : State}
    {w1 w2 w3 w4 w5 w6 w7 w8 w9 w10 w11 w12 w13 w14 w15 w16 : Window}
    → s1 ≡ round s (slice_index k 0) (slice_index w 0) → w1 ≡ slid w
    → s2 ≡ round s1 (slice_index k 1) (slice_index w1 0) → w2 ≡ slid w1
    → s3 ≡ round s2 (slice_index k 2) (slice_index w2 0) → w3 ≡ slid w2
    → s4 ≡ round s3 (slice_index k 3) (slice_index w3 0) → w4 ≡ slid w3
    → s5 ≡ round s4 (slice_index k 4) (slice_index w4 0) → w5 ≡ slid w4
    → s6 ≡ round s5 (slice_index k 5) (slice_index w5 0) → w6 ≡ slid w5
    → s7 ≡ round s6 (slice_index k 6) (slice_index w6 0) → w7 ≡ slid w6
    → s8 ≡ round s7 (slice_index k 7) (slice_index w7 0) → w8 ≡ slid w7
    → s9 ≡ round s8 (slice_index k 8) (slice_index w8 0) → w9 ≡ slid w8
    → s10 ≡ round s9 (slice_index k 9) (slice_index w9 0) → w10 ≡ slid w9
    → s11 ≡ round s10 (slice_index k 10) (slice_index w10 0) → w11 ≡ slid w10
    → s12 ≡ round s11 (slice_index k 11) (slice_index w11 0) → w12 ≡ slid w11
    → s13 ≡ round s12 (slice_index k 12) (slice_index w12 0) → w13 ≡ slid w12
    → s14 ≡ round s13 (slice_index k 13) (slice_index w13 0) → w14 ≡ slid w13
    → s15 ≡ round s14 (slice_index k 14) (slice_index w14 0) → w15 ≡ slid w14
    → s16 ≡ round s15 (slice_index k 15) (slice_index w15 0) → w16 ≡ slid w15 → Rolling s k w s16 w16
unfolding sixteen slid slid_four
rolling_steps s k w e1 f1 e2 f2 e3 f3 e4 f4 e5 f5 e6 f6 e7 f7 e8 f8 e9 f9 e10 f10 e11 f11 e12 f12 e13 f13 e14 f14 e15
    f15 e16 f16 =
    record {
      state = rw (
        e16,
        e15,
        e14,
        e13,
        e12,
        e11,
        e10,
        e9,
        e8,
        e7,
        e6,
        e5,
        e4,
        e3,
        e2,
        e1,
        f15,
        f14,
        f13,
        f12,
        f11,
        f10,
        f9,
        f8,
        f7,
        f6,
        f5,
        f4,
        f3,
        f2,
        f1,
      );
      words = rw (f16, f15, f14, f13, f12, f11, f10, f9, f8, f7, f6, f5, f4, f3, f2, f1);
    }
