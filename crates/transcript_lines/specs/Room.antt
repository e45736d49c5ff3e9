-- Room for the line of any answer: an image of 60,000 bytes in digits, its number and its digest. Assumes nothing.
use Rattle.std.specs.Prelude.{ℕ}

--   answer_line   how many bytes a buffer for one line has
abbrev pub answer_line : ℕ
answer_line = 131072
