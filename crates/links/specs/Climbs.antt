-- Places that lead up to place 0: `to` has the place to which each leads, `far` the length of that step.
--   Leads to far k b     place k leads to place 0 by steps of length b
--   Linked to far n      the first n places lead to each other, by steps of some length
--   Climbs to far k r    r is the length from place k; none if it is above PATH-BYTES, or there is none
--   Alike                the same places lead to place 0 by the same lengths
--   Reached to far n     each of the first n places does by at most PATH-BYTES; Reach, whether they do
-- Assumes nothing.
use Rattle.std.specs.Prelude.{Bool, true, false, ◌≡◌, List, ℕ, ◌+◌, ◌≤◌, ◌<◌, length, get_or, Option, MatchOption}
use Rattle.filesystem.specs.Tables.{NODES, PATH_BYTES}

pub data Leads (to far : List ℕ) : (k b : ℕ) → Type 0 where
  root : Leads to far 0 0
  up : {k b : ℕ} → 0 < k → Leads to far (get_or to k 0) b → Leads to far k (get_or far k 0 + b)

pub record Linked (to far : List ℕ) (n : ℕ) : Type 0 where
  pub few : n ≤ NODES
  pub to_size : length to ≡ NODES
  pub far_size : length far ≡ NODES
  pub inside : (k : ℕ) → 0 < k → k < n → get_or to k 0 < n
  pub some : (k : ℕ) → 0 < k → k < n → 0 < get_or far k 0

abbrev pub Climbs : (to far : List ℕ) (k : ℕ) → Option ℕ → Type 0
Climbs to far k r =
    MatchOption r ((b : ℕ) → Leads to far k b → PATH_BYTES < b) (λ b. (b ≤ PATH_BYTES) × Leads to far k b)

abbrev pub Alike : (to far to' far' : List ℕ) → Type 0
Alike to far to' far' =
    ((k b : ℕ) → Leads to far k b → Leads to' far' k b) × ((k b : ℕ) → Leads to' far' k b → Leads to far k b)

abbrev pub Reached : (to far : List ℕ) (n : ℕ) → Type 0
Reached to far n = (k : ℕ) → k < n → (b : ℕ) × (b ≤ PATH_BYTES) × Leads to far k b

abbrev pub Reach : (to far : List ℕ) (n : ℕ) → Bool → Type 0
Reach to far n r =
    (r ≡ true → Reached to far n)
    × (r ≡ false → (k : ℕ) × (k < n) × ((b : ℕ) → Leads to far k b → PATH_BYTES < b))
