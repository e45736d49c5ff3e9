-- What a writer's methods do.
-- Assumes nothing.
use Rattle.std.specs.Prelude.{◌≡◌, List, ℕ, ◌+◌, ◌≤◌, length}
use Rattle.desk_lines.specs.Lines.{Puts}
use Rattle.desk_lines.specs.declared.Writer.{Writer}

-- it has room for n bytes more
abbrev pub Room : ℕ → Writer → Type 0
Room n w = w.end + n ≤ length w.out.now

-- x is written behind what it had, in the same buffer
pub record Writes (x : List ℕ) (w w' : Writer) : Type 0 where
  pub same_buffer : w'.out.ghost_name ≡ w.out.ghost_name
  pub puts : Puts x w.end w'.end w.out.now w'.out.now
