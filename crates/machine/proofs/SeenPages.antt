-- The pages of the history over what is seen (specs/Seen.antt) are those of the guard's own run (specs/History.antt), wherever the host is honest. Of other
-- hosts the claim itself says that guard and tree go together, or names a collision.
-- Assumes nothing.
use Rattle.std.specs.Prelude.{◌≡◌, ℕ}
use Rattle.std.proofs.Math.Path.{refl, ap}
use Rattle.std.proofs.Common.{sym}
use mathlib.Core.List.{List, [], ◌∷◌, ◌++◌}
use Rattle.lists.specs.All.{All, all_head, all_tail}
use Rattle.rules.specs.Requests.{is_fetch}
use Rattle.rules.specs.Skeleton.{Config, Event, EventBytes}
use Rattle.rules.proofs.FitLaws.{judge_fits}
use Rattle.rules.specs.Valid.{Valid}
use Rattle.machine.specs.Machine.{State, Result, step, fresh, guard}
use Rattle.machine.specs.Tree.{tree, guard_of}
use Rattle.machine.specs.History.{awaits_page, page_in, page_out, pages}
use Rattle.machine.specs.Claim.{Fit, Honest}
use Rattle.machine.proofs.Simulation.{result_of}
use Rattle.machine.proofs.Run.{Holds, fresh_holds, fresh_guard_lem}
use Rattle.machine.proofs.HonestRun.{Any, together}
use Rattle.machine.specs.Seen.{shown, standing, page_replied, pages_after, pages_seen}
use Rattle.machine.proofs.SeenLaws.{Stands, move_stands, page_replied_lem}

module _ (c : Config) (fit : Fit c) where
  shown_on : (es : List Event) (g : State (guard c)) (t : State (tree c)) (r : List ℕ) → g ≡ guard_of c t → Holds c fit Any Any t → Stands c r g
      → All EventBytes es → Honest c g t es → pages_after c r t (shown c (guard c) g es) ≡ pages c (guard c) g es
  unfolding shown pages_after pages Honest step result_of guard_of
  shown_on [] g t r q h st bs ho = refl
  shown_on (e ∷ es) g t r q h st bs (ha, ho) =
      let (y, h₂) = together c fit g t e q h (all_head bs) ha in
      let a = (step c (guard c) g e).outcome.answer in
      let v : Valid c.width g.skeleton = rw q h.valid in
      let here : page_replied r e ≡ page_in g.skeleton.pending e = page_replied_lem c r g.skeleton.pending e st in
      let same : (step c (tree c) t e).state.skeleton ≡ (step c (guard c) g e).state.skeleton = ap (λ (x : Result (guard c)). x.state.skeleton) (sym y) in
      let rest = shown_on es (step c (guard c) g e).state (step c (tree c) t e).state (standing r e a) (ap (λ x. x.state) y) h₂
      (move_stands c r g st (judge_fits c g.skeleton v e (all_head bs))) (all_tail bs) ho in
      λ i. (here i ++ page_out (same i) a) ++ rest i

  pub pages-shown : (es : List Event) → All EventBytes es → Honest c (fresh c (guard c)) (fresh c (tree c)) es
      → pages_seen c (fresh c (tree c)) (shown c (guard c) (fresh c (guard c)) es) ≡ pages c (guard c) (fresh c (guard c)) es
  unfolding awaits_page is_fetch
  pages-shown es bs ho = shown_on es (fresh c (guard c)) (fresh c (tree c)) [] (fresh_guard_lem c fit) (fresh_holds c fit Any Any) refl bs ho
