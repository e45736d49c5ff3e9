-- What a pending read has gathered, and moves whose bytes fit the buffers.
-- Assumes nothing.
use Rattle.std.specs.Prelude.{◌≡◌, List, [], ℕ, ◌-◌, ◌*◌, ◌≤◌, max}
use Rattle.std.proofs.Math.ListN.{length}
use Rattle.filesystem.specs.Tables.{DATA_BYTES}
use Rattle.rules.specs.Requests.{asked, Pending, idle, reading, fetching, storing, cutting}
use Rattle.rules.specs.Skeleton.{Config, answer_length, request_length}
use Rattle.rules.specs.Rules.{Move, refuse, halt, send, finish, add, delete, read_page, begin, fill_page, stored, cut_done, keep_pages, give_up, saving, loading, remap}

-- Of a read that is pending: it was asked at most 4,096 bytes, and has gathered those of the pages before i.
abbrev pub Gathers : Pending → List ℕ → Type 0
Gathers idle b = Unit {0}
Gathers (asked x) b = Unit {0}
Gathers (reading k o p n i) b = (n ≤ DATA_BYTES) × (length b ≡ max p (i * 1024) - p)
Gathers (fetching k o q i) b = Unit {0}
Gathers (storing k o q i) b = Unit {0}
Gathers (cutting k o q) b = Unit {0}

-- Moves whose bytes fit the buffers.
abbrev pub Modest : Config → Move → Type 0
Modest c (refuse n) = Unit {0}
Modest c (halt n) = Unit {0}
Modest c (send p q) = (length q ≤ request_length c) × Gathers p []
Modest c (finish t n b) = length b ≤ answer_length c
Modest c (add n) = Unit {0}
Modest c (delete k) = Unit {0}
Modest c (remap x) = Unit {0}
Modest c (read_page k o p n i r) = Unit {0}
Modest c (begin k o q) = Unit {0}
Modest c (fill_page k o q i r) = Unit {0}
Modest c (stored k o q i) = Unit {0}
Modest c (cut_done k o q) = Unit {0}
Modest c (keep_pages k o q i) = Unit {0}
Modest c give_up = Unit {0}
Modest c saving = Unit {0}
Modest c (loading i d) = Unit {0}
