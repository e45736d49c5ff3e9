-- A write, check after check.
-- Assumes nothing.
use Rattle.std.specs.Prelude.{◌≡◌, Bool, true, false, List, [], ◌∷◌, ℕ, ◌+◌, ◌≤◌, ◌<◌, max}
use Rattle.std.proofs.Common.{ap, ◌∙◌, lt-ltb, le-ltb}
use Rattle.std.proofs.Math.Path.{ap₂, sym}
use Rattle.std.proofs.Math.Dec.{ltb}
use Rattle.std.proofs.Math.ListN.{length}
use Rattle.lists.specs.Checks.{decide, check_last, check_passes, check_stops}
use Rattle.filesystem.specs.Tables.{FILE_BYTES, Tables, node_at, open_at, find_id, find_handle}
use Rattle.rules.specs.Calls.{write}
use Rattle.rules.specs.Rules.{no_room, call_checks}
use Rattle.handle_calls.specs.Judged.{at_file, handled_for, lacks_right}
use Rattle.std.specs.Prelude.{Err}
use Rattle.handle_calls.specs.laws.HandledLaws.{allowed, size-known}

-- the open file is in place k
module _ (t : Tables) (h k : ℕ) (found : k ≡ find_handle t.opens h) where
  pub write_refused : (d : List ℕ) → lacks_right t.opens 2 k ≡ true → handled_for t h (write h d) ≡ Err 9
  unfolding handled_for call_checks lacks_right
  write_refused d e = check_stops Err 9 _ _ _ (allowed t h k found 2 ∙ e)

  -- a write with its right, by where it ends
  module _ (d : List ℕ) (end : ℕ) (ends : end ≡ (open_at t.opens k).cursor + length d)
      (has : lacks_right t.opens 2 k ≡ false) where
    write_passed : handled_for t h (write h d)
        ≡ decide Err ((27, ltb FILE_BYTES end)
        ∷ (28, no_room t (find_id t.nodes h) (max (node_at t.nodes (find_id t.nodes h)).size end)) ∷ [])
        (at_file k (find_id t.nodes h))
    unfolding handled_for call_checks lacks_right
    write_passed =
        check_passes Err 9 _ _ _ (allowed t h k found 2 ∙ has)
        ∙ ap₂ (λ (j e : ℕ). decide Err ((27, ltb FILE_BYTES e)
        ∷ (28, no_room t (find_id t.nodes h) (max (node_at t.nodes (find_id t.nodes h)).size e)) ∷ [])
        (at_file j (find_id t.nodes h)))
        (sym found) (ap (λ (j : ℕ). (open_at t.opens j).cursor + length d) (sym found) ∙ sym ends)

    pub write-long : FILE_BYTES < end → handled_for t h (write h d) ≡ Err 27
    write-long l = write_passed ∙ check_stops Err 27 _ _ _ (lt-ltb FILE_BYTES end l)

    -- and by the size that its file would have
    module _ (node size larger : ℕ) (full : Bool) (known : node ≡ find_id t.nodes h)
        (sized : size ≡ (node_at t.nodes node).size) (grown : larger ≡ max size end)
        (room : full ≡ no_room t node larger) where
      full-known : no_room t (find_id t.nodes h) (max (node_at t.nodes (find_id t.nodes h)).size end) ≡ full
      full-known = sym (room
          ∙ ap₂ (no_room t) known (grown ∙ ap (λ (s : ℕ). max s end) (size-known t.nodes h k end node size known
          sized)))

      pub write-full : end ≤ FILE_BYTES → full ≡ true → handled_for t h (write h d) ≡ Err 28
      write-full l e = write_passed ∙ check_passes Err 27 _ _ _ (le-ltb FILE_BYTES end l)
          ∙ check_stops Err 28 _ _ _ (full-known ∙ e)

      pub write_handled : end ≤ FILE_BYTES → full ≡ false → handled_for t h (write h d) ≡ at_file k node
      write_handled l e =
          write_passed
          ∙ check_passes Err 27 _ _ _ (le-ltb FILE_BYTES end l)
          ∙ check_last Err 28 _ _ (full-known ∙ e)
          ∙ ap (λ (j : ℕ). at_file k j) (sym known)
