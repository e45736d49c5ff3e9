-- What the guard's state has along every run.
-- Assumes nothing.
use Rattle.lists.specs.All.{All}
use Rattle.filesystem.specs.ImageLaws.{Divided, Digest}
use Rattle.rules.specs.Skeleton.{Config}
use Rattle.machine.specs.Machine.{State, guard}
use Rattle.rules.specs.Valid.{Valid}

module _ (c : Config) where
  -- digests node by node, and those of the pages that a change has sent
  pub record Digested (g : State (guard c)) : Type 0 where
    pub counted : Divided g.skeleton.tables.nodes g.contents
    pub digested : All (All Digest) g.contents
    pub sent : All Digest g.progress.digests

  pub record Holds (g : State (guard c)) : Type 0 where
    pub valid : Valid c.width g.skeleton
    pub pages : Digested g
