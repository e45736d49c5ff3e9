-- A truncation, check after check.
-- Assumes nothing.
use Rattle.std.specs.Prelude.{◌≡◌, Bool, true, false, [], ◌∷◌, ℕ, ◌≤◌, ◌<◌}
use Rattle.std.proofs.Math.Path.{ap}
use Rattle.std.proofs.Common.{sym, ◌∙◌, lt-ltb, le-ltb}
use Rattle.std.proofs.Math.Dec.{ltb}
use Rattle.lists.specs.Checks.{decide, check_last, check_passes, check_stops}
use Rattle.filesystem.specs.Tables.{FILE_BYTES, Tables, find_id, find_handle}
use Rattle.rules.specs.Calls.{truncate}
use Rattle.rules.specs.Rules.{no_room, call_checks}
use Rattle.handle_calls.specs.Judged.{at_file, handled_for, lacks_right}
use Rattle.std.specs.Prelude.{Err}
use Rattle.handle_calls.specs.laws.HandledLaws.{allowed}

-- the open file is in place k, the new size is n
module _ (t : Tables) (h k : ℕ) (found : k ≡ find_handle t.opens h) (n : ℕ) where
  pub truncate_refused : lacks_right t.opens 2 k ≡ true → handled_for t h (truncate h n) ≡ Err 9
  unfolding handled_for call_checks lacks_right
  truncate_refused e = check_stops Err 9 _ _ _ (allowed t h k found 2 ∙ e)

  -- with its right
  module _ (has : lacks_right t.opens 2 k ≡ false) where
    truncate_passed : handled_for t h (truncate h n)
        ≡ decide Err ((27, ltb FILE_BYTES n) ∷ (28, no_room t (find_id t.nodes h) n) ∷ [])
        (at_file k (find_id t.nodes h))
    unfolding handled_for call_checks lacks_right
    truncate_passed =
        check_passes Err 9 _ _ _ (allowed t h k found 2 ∙ has)
        ∙ ap (λ (j : ℕ). decide Err ((27, ltb FILE_BYTES n) ∷ (28, no_room t (find_id t.nodes h) n) ∷ [])
        (at_file j (find_id t.nodes h))) (sym found)

    pub truncate-long : FILE_BYTES < n → handled_for t h (truncate h n) ≡ Err 27
    truncate-long l = truncate_passed ∙ check_stops Err 27 _ _ _ (lt-ltb FILE_BYTES n l)

    -- and by whether there is room
    module _ (node : ℕ) (full : Bool) (known : node ≡ find_id t.nodes h) (room : full ≡ no_room t node n)
        (l : n ≤ FILE_BYTES) where
      full-known : no_room t (find_id t.nodes h) n ≡ full
      full-known = sym (room ∙ ap (λ (j : ℕ). no_room t j n) known)

      pub truncate-full : full ≡ true → handled_for t h (truncate h n) ≡ Err 28
      truncate-full e = truncate_passed ∙ check_passes Err 27 _ _ _ (le-ltb FILE_BYTES n l)
          ∙ check_stops Err 28 _ _ _ (full-known ∙ e)

      pub truncate_handled : full ≡ false → handled_for t h (truncate h n) ≡ at_file k node
      truncate_handled e =
          truncate_passed
          ∙ check_passes Err 27 _ _ _ (le-ltb FILE_BYTES n l)
          ∙ check_last Err 28 _ _ (full-known ∙ e)
          ∙ ap (λ (j : ℕ). at_file k j) (sym known)
