-- The page of zeros.
-- Assumes nothing.
use Rattle.std.specs.Prelude.{List, ℕ, replicate}
use Rattle.filesystem.specs.Tables.{PAGE_BYTES}

unfoldable pub zero_page : List ℕ
zero_page = replicate PAGE_BYTES 0
