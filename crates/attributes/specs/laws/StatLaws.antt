-- A stat's stop reason, check after check.
-- Assumes nothing.
use Rattle.std.specs.Prelude.{◌≡◌, true, false, ℕ, ◌+◌, ◌<◌, length, take, set}
use Rattle.std.proofs.Math.Path.{ap}
use Rattle.std.proofs.Common.{sym, ◌∙◌, arith, length-append, eq-eqb, ne_eqb}
use Rattle.std.proofs.Math.Bool.{not}
use mathlib.Core.List.{List, [], ◌∷◌, ◌++◌, append_assoc}
use Rattle.lists.specs.Checks.{decide, check_last, check_passes, check_stops}
use Rattle.lists.specs.Equal.{equal}
use Rattle.lists.specs.LittleEndian.{encode, length-encode}
use Rattle.lists.specs.Parts.{overwrite}
use Rattle.lists.specs.PartLaws.{length_overwrite, overwrite_all, overwrite_next, overwrite_one}
use Rattle.filesystem.specs.Tables.{ID_BYTES, Node, Tables, node_at}
use Rattle.rules.specs.Requests.{asked, stating}
use Rattle.rules.specs.Rules.{stat_bytes, reply_checks}
use Rattle.tables.specs.laws.RowsInUse.{node_front_lem}
use Rattle.replies.specs.Judged.{reason_for}

module _ (t : Tables) (r : List ℕ) (k : ℕ) where
  pub stat-length : (length r ≡ ID_BYTES + 6 → ⊥) → reason_for t r (asked (stating k)) ≡ 1
  unfolding reason_for reply_checks
  stat-length h = check_stops (λ i. i) 1 _ _ _ (ap not (ne_eqb _ _ h))

  module _ (b : List ℕ) (row : b ≡ stat_bytes ID_BYTES (node_at t.nodes k)) (long : length r ≡ ID_BYTES + 6) where
    stat_passed : reason_for t r (asked (stating k)) ≡ decide (λ i. i) ((6, not (equal r b)) ∷ []) 0
    unfolding reason_for reply_checks
    stat_passed =
        check_passes (λ i. i) 1 _ _ _ (ap not (eq-eqb _ _ long))
        ∙ ap (λ (l : List ℕ). decide (λ i. i) ((6, not (equal r l)) ∷ []) 0) (sym row)

    pub stat-other : equal r b ≡ false → reason_for t r (asked (stating k)) ≡ 6
    stat-other e = stat_passed ∙ check_stops (λ i. i) 6 _ _ _ (ap not e)

    pub stat_same : equal r b ≡ true → reason_for t r (asked (stating k)) ≡ 0
    stat_same e = stat_passed ∙ check_last (λ i. i) 6 _ _ (ap not e)

-- a row of a node's fields
pub stat_of_lem : (w n : ℕ) (ns : List Node) (k id kind mode size : ℕ) (b : List ℕ) → k < n → b ≡ encode w id
    ++ (kind ∷ mode ∷ encode 4 size)
    → id ≡ (node_at ns k).id → kind ≡ (node_at ns k).kind → mode ≡ (node_at ns k).mode → size ≡ (node_at ns k).size
    → b ≡ stat_bytes w (node_at (take n ns) k)
unfolding stat_bytes
stat_of_lem w n ns k id kind mode size b h e p q r s = e ∙ rw (p, q, r, s, node_front_lem n ns k h)

-- written field by field
pub stat-written : (w id kind mode size : ℕ) (l : List ℕ) → length l ≡ w + 6
    → overwrite (set (set (overwrite l 0 (encode w id)) w kind) (w + 1) mode) (w + 2) (encode 4 size) ≡ encode w id
    ++ (kind ∷ mode ∷ encode 4 size)
stat-written w id kind mode size l h =
    let x = encode w id in
    let a : length x ≡ w = length-encode w id in
    let p : length (overwrite l 0 x) ≡ length l = length_overwrite l 0 x (omega arith) in
    let e₁ : set (overwrite l 0 x) w kind ≡ overwrite l 0 (x ++ (kind ∷ [])) =
    sym (overwrite_one (overwrite l 0 x) w kind (omega arith)) ∙ overwrite_next l 0 x (kind ∷ []) w (omega arith)
    (omega arith) in
    let x₂ = x ++ (kind ∷ []) in
    let a₂ : length x₂ ≡ w + 1 = length-append x (kind ∷ []) ∙ omega arith in
    let p₂ : length (overwrite l 0 x₂) ≡ length l = length_overwrite l 0 x₂ (omega arith) in
    let e₂ : set (overwrite l 0 x₂) (w + 1) mode ≡ overwrite l 0 (x₂ ++ (mode ∷ [])) =
    sym (overwrite_one (overwrite l 0 x₂) (w + 1) mode (omega arith)) ∙ overwrite_next l 0 x₂ (mode ∷ []) (w + 1)
    (omega arith) (omega arith) in
    let x₃ = x₂ ++ (mode ∷ []) in
    let a₃ : length x₃ ≡ w + 2 = length-append x₂ (mode ∷ []) ∙ omega arith in
    let e₃ : overwrite (overwrite l 0 x₃) (w + 2) (encode 4 size) ≡ overwrite l 0 (x₃ ++ encode 4 size) = overwrite_next
    l 0 x₃ (encode 4 size) (w + 2) (omega arith) (omega arith) in
    let a₄ : length (x₃ ++ encode 4 size) ≡ w + 6 = length-append x₃ (encode 4 size)
    ∙ omega (arith, length-encode 4 size) in
    ap (λ (y : List ℕ). overwrite (set y (w + 1) mode) (w + 2) (encode 4 size)) e₁
    ∙ ap (λ (y : List ℕ). overwrite y (w + 2) (encode 4 size)) e₂
    ∙ e₃
    ∙ overwrite_all l (x₃ ++ encode 4 size) (omega arith)
    ∙ simp append_assoc
