-- What is read of the memory's rows says of the tables in use.
-- Assumes nothing.
use Rattle.std.specs.Prelude.{◌≡◌, Bool, true, false, List, ℕ, ◌/◌, ◌%◌, ◌<◌, ◌≤◌, length, take, Option, is_some, Ok}
use Rattle.std.proofs.Math.Path.{ap, sym}
use Rattle.std.proofs.Common.{◌∙◌, arith, eq-eqb, ne_eqb, le-leb}
use Rattle.std.proofs.Math.Bool.{not}
use Rattle.std.proofs.lemmas.Bool.{lt-leb}
use Rattle.filesystem.specs.Tables.{NODES, Node, node_at, is_directory, has_bit, children, find_handle}
use Rattle.filesystem.specs.Rights.{covers}
use Rattle.filesystem.specs.Paths.{parent_of}
use Rattle.memory.specs.Layout.{mem_of, open_rows}
use Rattle.tables.specs.View.{tables_in}
use Rattle.rules.specs.Calls.{stat}
use Rattle.rules.specs.Rules.{is_open}
use Rattle.paths.specs.Parts.{components_of}
use Rattle.paths.specs.Walks.{placed, at_place}
use Rattle.paths.specs.laws.WalkAnswers.{Holds, placed_in_lem}
use Rattle.refusals.specs.Numbers.{Judged}
use Rattle.paths.specs.declared.Place.{Place}
use Rattle.path_calls.specs.declared.Way.{Way}
use Rattle.path_calls.specs.Ways.{at_way}
use Rattle.path_calls.specs.Judged.{node_for, way_for}
use Rattle.path_calls.specs.laws.ReachedLaws.{way_at, way_node, Reached, stat_reached}
use Rattle.tables.specs.Found.{found}
use Rattle.tables.specs.laws.FoundLaws.{found_within, found_nowhere}
use Rattle.tables.specs.laws.RowsInUse.{count-nodes, count-opens, node_front_lem}

-- a field x of node k
module _ (n : ℕ) (ns : List Node) (k : ℕ) (h : k < n) (x : ℕ) where
  front_id : x ≡ (node_at ns k).id → x ≡ (node_at (take n ns) k).id
  front_id e = e ∙ sym (ap (λ (r : Node). r.id) (node_front_lem n ns k h))

  front_mode : x ≡ (node_at ns k).mode → x ≡ (node_at (take n ns) k).mode
  front_mode e = e ∙ sym (ap (λ (r : Node). r.mode) (node_front_lem n ns k h))

  pub covers-front : (b : Bool) (r : ℕ) → x ≡ (node_at ns k).mode → b ≡ covers x r
      → b ≡ covers (node_at (take n ns) k).mode r
  covers-front b r e q = q ∙ ap (λ (y : ℕ). covers y r) (front_mode e)

  pub children-front : (y : ℕ) → x ≡ (node_at ns k).id → y ≡ length (children (take n ns) x)
      → y ≡ length (children (take n ns) (node_at (take n ns) k).id)
  children-front y e q = q ∙ ap (λ (j : ℕ). length (children (take n ns) j)) (front_id e)

  module _ (e : x ≡ (node_at ns k).kind) where
    pub folder : x ≡ 2 → is_directory (node_at (take n ns) k) ≡ true
    folder q = ap is_directory (node_front_lem n ns k h) ∙ eq-eqb _ _ (sym e ∙ q)

    pub no-folder : (x ≡ 2 → ⊥) → is_directory (node_at (take n ns) k) ≡ false
    no-folder q = ap is_directory (node_front_lem n ns k h) ∙ ne_eqb _ _ (λ p. q (e ∙ p))

  module _ (b : ℕ) (e : x ≡ (node_at ns k).mode) where
    pub bit : x / b % 2 ≡ 1 → has_bit b (node_at (take n ns) k) ≡ true
    bit q = ap (has_bit b) (node_front_lem n ns k h) ∙ eq-eqb _ _ (ap (λ (y : ℕ). y / b % 2) (sym e) ∙ q)

    pub no_bit : (x / b % 2 ≡ 1 → ⊥) → has_bit b (node_at (take n ns) k) ≡ false
    no_bit q = ap (has_bit b) (node_front_lem n ns k h) ∙ ne_eqb _ _ (λ p. q (ap (λ (y : ℕ). y / b % 2) e ∙ p))

-- whether node k is open: whether its id was found among the handles
module _ (m : List ℕ) (n o k : ℕ) (h : k < n) (l : o ≤ open_rows) (id : ℕ) (e : id ≡ (node_at (mem_of m).nodes k).id)
    (r : Option ℕ) (f : r ≡ found o (find_handle (take o (mem_of m).opens) id)) where
  there : r ≡ found o (find_handle (take o (mem_of m).opens) (node_at (take n (mem_of m).nodes) k).id)
  there = f ∙ ap (λ (x : ℕ). found o (find_handle (take o (mem_of m).opens) x)) (front_id n (mem_of m).nodes k h id e)

  pub is_open_lem : is_some r ≡ true → is_open (tables_in n o (mem_of m)) (node_at (take n (mem_of m).nodes) k) ≡ true
  unfolding tables_in
  is_open_lem q =
      ap not (lt-leb (length (take o (mem_of m).opens)) (find_handle (take o (mem_of m).opens)
      (node_at (take n (mem_of m).nodes) k).id)
      (omega (arith, count-opens m o l, found_within o _ (ap is_some (sym there) ∙ q))))

  pub not_open : is_some r ≡ false → is_open (tables_in n o (mem_of m)) (node_at (take n (mem_of m).nodes) k) ≡ false
  unfolding tables_in
  not_open q =
      ap not (le-leb (length (take o (mem_of m).opens)) (find_handle (take o (mem_of m).opens)
      (node_at (take n (mem_of m).nodes) k).id)
      (omega (arith, count-opens m o l, found_nowhere o _ (ap is_some (sym there) ∙ q))))

-- Answers over the first n nodes: the places in them are below n.
module _ (m : List ℕ) (n o : ℕ) (s : List ℕ) (h : 0 < n) (l : n ≤ NODES) where
  pub reached_front : (r : Judged ℕ) (k : ℕ) → r ≡ node_for (tables_in n o (mem_of m)) s stat → r ≡ Ok k
      → Reached (tables_in n o (mem_of m)) s k × (k < n)
  unfolding tables_in
  reached_front r k e q =
      let c = count-nodes m n l in
      let w = stat_reached (tables_in n o (mem_of m)) s k (omega arith) (sym e ∙ q) in
      (w, omega (arith, w.node_within))

  pub way_front : (r : Judged Way) (k d : ℕ) → r ≡ way_for (tables_in n o (mem_of m)) s stat → r ≡ at_way k d
      → Reached (tables_in n o (mem_of m)) s k × (parent_of (tables_in n o (mem_of m)).nodes 0 (components_of s) ≡ d)
      × (k < n) × (d < n)
  unfolding tables_in
  way_front r k d e q =
      let t = tables_in n o (mem_of m) in
      let c = count-nodes m n l in
      let a = way_at (parent_of t.nodes 0 (components_of s)) (node_for t s stat) k d (sym (way_node t s) ∙ sym e ∙ q) in
      let w = stat_reached t s k (omega arith) a.0 in
      (w, a.1, omega (arith, w.node_within), omega (arith, w.parent_within, a.1))

module _ (m : List ℕ) (n : ℕ) (s : List ℕ) (h : 0 < n) (l : n ≤ NODES) where
  pub holds_front : (r : Judged (Option Place)) (d at : ℕ) → r ≡ placed (take n (mem_of m).nodes) s → r ≡ at_place d at
      → Holds (take n (mem_of m).nodes) s d at × (d < n)
  holds_front r d at e q =
      let c = count-nodes m n l in
      let w = placed_in_lem (take n (mem_of m).nodes) s d at (omega arith) (sym e ∙ q) in
      (w, omega (arith, w.place-within))
