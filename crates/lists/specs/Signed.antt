-- Two's complement: a number of w bytes read as a signed one.
-- Assumes nothing.
use Rattle.std.specs.Prelude.{◌≡◌, ℕ, suc, ◌*◌, ◌-◌, ◌^◌, ◌<◌, ◌≤◌, ℤ, pos, negsuc, ltb}
use Rattle.std.proofs.Common.{lt-ltb, le-ltb}
use Rattle.lists.specs.Pick.{pick, pick_true, pick-false}

-- below the half as it is, from the half on less 256 ^ w (`negsuc k` is -(k + 1))
unfoldable pub signed : ℕ → ℕ → ℤ
signed w x = pick (ltb (2 * x) (256 ^ w)) (pos x) (negsuc (256 ^ w - suc x))

pub signed_low : (w x : ℕ) → 2 * x < 256 ^ w → signed w x ≡ pos x
unfolding signed
signed_low w x h = pick_true _ _ _ (lt-ltb (2 * x) (256 ^ w) h)

pub signed_high : (w x : ℕ) → 256 ^ w ≤ 2 * x → signed w x ≡ negsuc (256 ^ w - suc x)
unfolding signed
signed_high w x h = pick-false _ _ _ (le-ltb (2 * x) (256 ^ w) h)
