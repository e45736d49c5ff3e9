-- What holds of the reference tree along every run, whatever the host replies and whatever is loaded:
-- valid tables, a file's size is the length of its bytes, and a directory has none.
use Rattle.std.specs.Prelude.{◌≡◌, ℕ, get_or}
use mathlib.Core.List.{List, [], ◌∷◌}
use Rattle.std.proofs.Common.{arith, eq-eqb}
use Rattle.lists.specs.All.{All, both}
use Rattle.filesystem.specs.Tables.{node_at}
use Rattle.filesystem.specs.Sound.{to_sound, limits_at, by_kind, directory_place}
use Rattle.rules.specs.Skeleton.{Config, Event, EventBytes}
use Rattle.machine.specs.Machine.{State, step, fresh, final}
use Rattle.rules.specs.Valid.{Valid}
use Rattle.rules.proofs.FitLaws.{none_left, judge_fits}
use Rattle.machine.proofs.ValidLaws.{keeps_valid}
use Rattle.machine.specs.Tree.{tree}
use Rattle.machine.specs.Claim.{Fit}
use Rattle.machine.proofs.Simulation.{Aligned, aligned_at}
use Rattle.machine.proofs.Invariant.{keeps}
use Rattle.machine.proofs.Run.{back_valid, Holds, fresh_holds}
use Rattle.machine.proofs.HonestRun.{Any}

module _ (c : Config) (fit : Fit c) where
  step_holds : (t : State (tree c)) → Holds c fit Any Any t → (e : Event) → EventBytes e → Holds c fit Any Any (step c (tree c) t e).state
  unfolding step
  step_holds t h e b =
      let f = judge_fits c t.skeleton h.valid e b in
      record {
        valid = keeps_valid c (tree c) t h.valid _ e f (λ i d _. back_valid c fit Any Any t h.kept h.valid.tables.nodes_valid d);
        kept = keeps c Any Any t h.kept h.valid.tables.nodes_valid f (λ p m. tt) (λ p m. tt);
      }

  pub run_holds : (t : State (tree c)) (es : List Event) → All EventBytes es → Holds c fit Any Any t → Holds c fit Any Any (final c (tree c) t es)
  unfolding final
  run_holds t [] a h = h
  run_holds t (e ∷ es) (both b a) h = run_holds (step c (tree c) t e).state es a (step_holds t h e b)

  module _ (es : List Event) (a : All EventBytes es) where
    abbrev at-end : State (tree c)
    at-end = final c (tree c) (fresh c (tree c)) es

    holds : Holds c fit Any Any at-end
    holds = run_holds (fresh c (tree c)) es a (fresh_holds c fit Any Any)

    pub tree_valid : Valid c.width at-end.skeleton
    tree_valid = holds.valid

    -- a node's size is the length of its bytes
    pub tree_aligned : Aligned c at-end.skeleton.tables.nodes at-end.contents
    tree_aligned = holds.kept.good.aligned

    -- a directory has none
    pub directory_empty : (k : ℕ) → (node_at at-end.skeleton.tables.nodes k).kind ≡ 2 → get_or at-end.contents k [] ≡ []
    directory_empty k d =
        let ns = at-end.skeleton.tables.nodes in
        let s = to_sound c.width ns holds.valid.tables.nodes_valid.sound in
        let e = aligned_at c ns at-end.contents tree_aligned k in
        by_kind (get_or at-end.contents k [] ≡ []) (limits_at c.width ns s k (directory_place ns k (eq-eqb _ _ d)))
        (λ f _. absurd (omega arith)) (λ _ z. none_left _ (omega arith))
