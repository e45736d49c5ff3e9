-- A new id's stop reason, check after check.
-- Assumes nothing.
use Rattle.std.specs.Prelude.{◌≡◌, ◌||◌, List, [], ◌∷◌, ℕ, ◌≤◌, ◌<◌, length}
use Rattle.std.proofs.Math.Path.{ap}
use Rattle.std.proofs.Common.{sym, ◌∙◌, arith, eq-eqb, ne_eqb, le-leb}
use Rattle.std.proofs.Math.Bool.{not}
use Rattle.std.proofs.Math.Dec.{eqb}
use Rattle.std.proofs.lemmas.Bool.{lt-leb}
use Rattle.lists.specs.Checks.{decide, check_last, check_passes, check_stops}
use Rattle.lists.specs.Equal.{or_both}
use Rattle.lists.specs.LittleEndian.{decode}
use Rattle.lists.specs.Parts.{part}
use Rattle.filesystem.specs.Tables.{ID_BYTES, Tables, present, find_id}
use Rattle.rules.specs.Requests.{asked, creating}
use Rattle.rules.specs.Rules.{reply_checks}
use Rattle.replies.specs.Judged.{reason_for}
use Rattle.replies.specs.laws.JudgedLaws.{whole_part, or_left, or_right}

module _ (t : Tables) (r : List ℕ) (p k m : ℕ) (name : List ℕ) where
  pub id_length : (length r ≡ ID_BYTES → ⊥) → reason_for t r (asked (creating p k m name)) ≡ 1
  unfolding reason_for reply_checks
  id_length h = check_stops (λ i. i) 1 _ _ _ (ap not (ne_eqb _ _ h))

  module _ (x : ℕ) (read : x ≡ decode (part 0 ID_BYTES r)) (long : length r ≡ ID_BYTES) where
    id_read : decode r ≡ x
    id_read = ap decode (sym (whole_part r ID_BYTES long)) ∙ sym read

    id_passed : reason_for t r (asked (creating p k m name)) ≡ decide (λ i. i)
        ((3, eqb x 0 || present t.nodes (find_id t.nodes x)) ∷ []) 0
    unfolding reason_for reply_checks
    id_passed =
        check_passes (λ i. i) 1 _ _ _ (ap not (eq-eqb _ _ long))
        ∙ ap (λ (y : ℕ). decide (λ i. i) ((3, eqb y 0 || present t.nodes (find_id t.nodes y)) ∷ []) 0) id_read

    pub id_zero : x ≡ 0 → reason_for t r (asked (creating p k m name)) ≡ 3
    id_zero e = id_passed ∙ check_stops (λ i. i) 3 _ _ _ (or_left _ _ (eq-eqb x 0 e))

    module _ (i : ℕ) (found : i ≡ find_id t.nodes x) where
      pub id_held : i < length t.nodes → reason_for t r (asked (creating p k m name)) ≡ 3
      id_held l = id_passed
          ∙ check_stops (λ i. i) 3 _ _ _
          (or_right (eqb x 0) _ (ap not (lt-leb (length t.nodes) (find_id t.nodes x) (omega arith))))

      pub id_new : (x ≡ 0 → ⊥) → length t.nodes ≤ i → reason_for t r (asked (creating p k m name)) ≡ 0
      id_new h l = id_passed
          ∙ check_last (λ i. i) 3 _ _ (or_both (eqb x 0) _ (ne_eqb x 0 h)
          (ap not (le-leb (length t.nodes) (find_id t.nodes x) (omega arith))))
