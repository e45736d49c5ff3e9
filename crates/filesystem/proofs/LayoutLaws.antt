-- What a layout's maker is in bytes (SPECIFICATION 8.4).
-- Assumes nothing.
use Rattle.std.specs.Prelude.{ℕ, zero, suc, ◌≤◌, ◌≡◌, refl, [], ◌∷◌, length}
use Rattle.std.proofs.Common.{ap, arith}
use Rattle.lists.specs.Pick.{pick}
use Rattle.lists.specs.LittleEndian.{encode}
use Rattle.filesystem.specs.Image.{maker_bytes}
use Rattle.filesystem.specs.Layouts.{layout, no_maker}

pub one_maker : (w : ℕ) → maker_bytes (layout w 1) ≡ 1 ∷ []
unfolding maker_bytes pick
one_maker w = refl

pub maker_length : (w maker : ℕ) → maker ≤ 1 → length (maker_bytes (layout w maker)) ≡ maker
maker_length w zero h = ap length (no_maker w)
maker_length w (suc zero) h = ap length (one_maker w)
maker_length w (suc (suc k)) h = absurd (omega arith)

-- the maker as a number
pub maker_encoded : (w maker : ℕ) → maker ≤ 1 → maker_bytes (layout w maker) ≡ encode maker 1
unfolding encode
maker_encoded w zero h = no_maker w
maker_encoded w (suc zero) h = one_maker w
maker_encoded w (suc (suc k)) h = absurd (omega arith)
