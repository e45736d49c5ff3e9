-- What the guard's state has along every run, in one word: it holds (`Holds`), what a pending call has gathered is as much as its pages ask, and the table
-- of maps is valid. The code's contracts take it as their premise.
-- Assumes nothing.
use Rattle.std.specs.Prelude.{◌≡◌, ℕ, suc, ◌-◌, length}
use mathlib.Core.List.{List}
use Rattle.rules.specs.Pages.{first, last}
use Rattle.rules.specs.Requests.{asked, Pending, idle, reading, fetching, storing, cutting}
use Rattle.rules.specs.Skeleton.{Config}
use Rattle.rules.specs.Modest.{Gathers}
use Rattle.rules.specs.ValidMaps.{MapsValid}
use Rattle.machine.specs.Machine.{State, guard}
use Rattle.machine.specs.Held.{Holds}

-- of a change that is pending: one digest for each page that it has sent
abbrev pub Counts : Pending → List (List ℕ) → Type 0
Counts idle ds = Unit {0}
Counts (asked x) ds = Unit {0}
Counts (reading k o p n i) ds = Unit {0}
Counts (fetching k o q i) ds = length ds ≡ i - first q
Counts (storing k o q i) ds = length ds ≡ suc i - first q
Counts (cutting k o q) ds = length ds ≡ last q - first q

pub record Consistent (c : Config) (g : State (guard c)) : Type 0 where
  pub holds : Holds c g
  pub gathers : Gathers g.skeleton.pending g.progress.bytes
  pub counts : Counts g.skeleton.pending g.progress.digests
  pub maps : MapsValid g.skeleton
