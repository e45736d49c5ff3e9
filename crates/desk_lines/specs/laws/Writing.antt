-- A line written piece by piece by a writer.
-- Assumes nothing.
use Rattle.std.specs.Prelude.{◌≡◌, List, ◌++◌, ℕ, ◌+◌, ◌≤◌, length}
use Rattle.std.proofs.Common.{ap, ◌∙◌, arith}
use Rattle.lists.specs.PartLaws.{length_overwrite}
use Rattle.desk_lines.specs.Written.{Room, Writes}
use Rattle.desk_lines.specs.declared.Writer.{Writer}
use Rattle.desk_lines.specs.laws.Printing.{puts_more, puts_as}

module _ {x : List ℕ} {w v : Writer} (h : Writes x w v) where
  -- what is left of the room for m bytes
  pub room_left : (n m : ℕ) → Room m w → length x + n ≤ m → Room n v
  room_left n m r l =
      let e = h.puts.end in
      let k = ap length h.puts.buffer ∙ length_overwrite w.out.now w.end x (omega arith) in
      omega arith

  -- one piece more
  pub writes_more : {y : List ℕ} {u : Writer} → w.end ≤ length w.out.now → Writes y v u → Writes (x ++ y) w u
  writes_more {y = y} {u = u} i g = record {
    same_buffer = g.same_buffer ∙ h.same_buffer;
    puts = puts_more x y w.out.now v.out.now u.out.now w.end v.end u.end i h.puts g.puts;
  }

  -- the same text, otherwise grouped
  pub writes_as : (y : List ℕ) → x ≡ y → Writes y w v
  writes_as y e = record { same_buffer = h.same_buffer; puts = puts_as x y _ _ _ _ h.puts e }
