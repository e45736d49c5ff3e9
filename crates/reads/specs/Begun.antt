-- A read by handle as it begins.
-- Assumes nothing.
use Rattle.std.specs.Prelude.{[], ℕ, ◌-◌, min, eqb}
use Rattle.lists.specs.Pick.{pick}
use Rattle.filesystem.specs.Tables.{Tables, node_at, open_at, set_cursor}
use Rattle.rules.specs.Pages.{page_at}
use Rattle.rules.specs.Requests.{reading, fetch_request}
use Rattle.rules.specs.Rules.{Move, send, finish}

-- what a read of n bytes does, of the open file in place o and the node in place k
unfoldable pub read_of : Tables → (o k n : ℕ) → Move
read_of t o k n =
    pick (eqb n 0) (finish t 0 [])
    (send (reading k o (open_at t.opens o).cursor n (page_at (open_at t.opens o).cursor))
    (fetch_request (open_at t.opens o).descriptor (page_at (open_at t.opens o).cursor)))

-- the smaller of count and what is left (SPECIFICATION 4.4)
unfoldable pub left_of : Tables → (o k count : ℕ) → ℕ
left_of t o k count = min count ((node_at t.nodes k).size - (open_at t.opens o).cursor)

-- the tables with another cursor in place o
abbrev pub cursor_to : Tables → (o x : ℕ) → Tables
cursor_to t o x = record { nodes = t.nodes; opens = set_cursor t.opens o x }
