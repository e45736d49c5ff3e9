-- A layout by its numbers, as code has it: the bytes of an id, and those of a record's maker.
-- Assumes nothing.
use Rattle.std.specs.Prelude.{ℕ, ◌≤◌, ◌≡◌, refl, [], eqb}
use Rattle.lists.specs.Pick.{pick}
use Rattle.filesystem.specs.Image.{Layout, maker_bytes}

abbrev pub layout : (w maker : ℕ) → Layout
layout w maker = record { id_bytes = w; maker = eqb maker 1 }

abbrev pub IsLayout : (w maker : ℕ) → Type 0
IsLayout w maker = (w ≤ 8) × (maker ≤ 1)

pub no_maker : (w : ℕ) → maker_bytes (layout w 0) ≡ []
unfolding maker_bytes pick
no_maker w = refl
