-- A listing that came.
-- Assumes nothing.
use Rattle.std.specs.Prelude.{◌≡◌, true, List, ℕ, ◌<◌, length, take}
use Rattle.std.proofs.Math.Path.{ap}
use Rattle.std.proofs.Common.{ap₂, sym, ◌∙◌, subst, arith}
use Rattle.filesystem.specs.Tables.{ID_BYTES, Node, Tables, node_at, children}
use Rattle.filesystem.specs.Image.{sound_nodes}
use Rattle.rules.specs.Requests.{asked, listing}
use Rattle.rules.specs.Skeleton.{Config}
use Rattle.rules.specs.Valid.{ValidNodes}
use Rattle.machine.specs.Machine.{State, guard as digest_store}
use Rattle.memory.specs.Layout.{mem_of}
use Rattle.tables.specs.View.{tables_in}
use Rattle.tables.specs.laws.RowsInUse.{node_front_lem}
use Rattle.guard_state.specs.Calls.{LISTING}
use Rattle.guard_state.specs.declared.Guard.{Guard}
use Rattle.guard_state.specs.State.{numbers_of, state_of}
use Rattle.guard_state.specs.laws.LoadedLaws.{tables-loaded, nodes-loaded, nodes-count}
use Rattle.replies.specs.Judged.{reason_for}
use Rattle.machine.specs.Consistent.{Consistent}
use Rattle.guard_state.specs.laws.PendingLaws.{listing_pending}
use Rattle.replies.specs.laws.PremiseLaws.{known}
use Rattle.replies.specs.laws.ReasonLaws.{reason_loaded}

-- over the numbers that were loaded
module _ (c : Config) (m : List ℕ) (g : Guard) (e : g ≡ numbers_of (mem_of m).head) where
  abbrev here : State (digest_store c)
  here = state_of c m

  -- A directory whose id was read: a listing of it judged, and its children counted.
  module _ (l : (numbers_of (mem_of m).head).node < (numbers_of (mem_of m).head).nodes) (i : ℕ)
      (read : i ≡ (node_at (mem_of m).nodes g.node).id) where
    abbrev used : List Node
    used = take g.nodes (mem_of m).nodes

    used-loaded : used ≡ here.skeleton.tables.nodes
    unfolding tables_in
    used-loaded = ap (λ (t : Tables). t.nodes) (tables-loaded m g e c)

    in_use : g.node < g.nodes
    in_use =
        let p : g.node ≡ (numbers_of (mem_of m).head).node = ap (λ (x : Guard). x.node) e in
        let q : g.nodes ≡ (numbers_of (mem_of m).head).nodes = ap (λ (x : Guard). x.nodes) e in
        omega arith

    id_used : (node_at used g.node).id ≡ i
    id_used = ap (λ (n : Node). n.id) (node_front_lem g.nodes (mem_of m).nodes g.node in_use) ∙ sym read

    pub listing_reason : (b : ℕ) (r : List ℕ) → ValidNodes ID_BYTES here.skeleton.tables.nodes
        → (sound_nodes ID_BYTES used ≡ true → (k o : ℕ) → (node_at used k).id ≡ i
        → b ≡ reason_for (tables_in g.nodes o (mem_of m)) r (asked (listing k)))
        → b ≡ reason_for here.skeleton.tables r (asked (listing (numbers_of (mem_of m).head).node))
    listing_reason b r v h = h (ap (sound_nodes ID_BYTES) used-loaded ∙ v.sound) g.node g.opens id_used
        ∙ reason_loaded c m g e (λ k. asked (listing k)) r

    pub listing_count : length (children used i)
        ≡ length (children here.skeleton.tables.nodes (node_at here.skeleton.tables.nodes
        (numbers_of (mem_of m).head).node).id)
    listing_count =
        ap (λ (k : ℕ). length (children used k)) (sym id_used)
        ∙ ap₂ (λ (ns : List Node) (k : ℕ). length (children ns (node_at ns k).id)) used-loaded
        (ap (λ (x : Guard). x.node) e)

    pub listing_node : (numbers_of (mem_of m).head).node < length here.skeleton.tables.nodes
    listing_node =
        let q : g.nodes ≡ (numbers_of (mem_of m).head).nodes = ap (λ (x : Guard). x.nodes) e in
        omega (arith, nodes-loaded m g e c)

-- what the tables have for the pending call
module _ (c : Config) (m : List ℕ) (h : Consistent c (state_of c m)) where
  abbrev g : Guard
  g = numbers_of (mem_of m).head

  abbrev t : Tables
  t = (state_of c m).skeleton.tables

  pub listing_premises : c.width ≡ ID_BYTES → g.call ≡ LISTING → ValidNodes ID_BYTES t.nodes × (g.node < g.nodes)
  listing_premises w e = (
    subst (λ (n : ℕ). ValidNodes n t.nodes) w h.holds.valid.tables.nodes_valid,
    omega (arith, known c m h (asked (listing g.node)) (listing_pending c m e), nodes-count c m),
  )
