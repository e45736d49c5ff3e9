-- The table of maps along every run, whatever the host replies and whatever is kept of pages: at most sixteen, each address a multiple of 4,096 and not
-- 0, no byte beyond 2^64 - 1, no two overlap. A save and a load leave it, and what they come to is the same whatever maps live.
-- Assumes nothing.
use Rattle.std.specs.Prelude.{◌≡◌, refl, ℕ, suc, ◌+◌, ◌*◌, ltb, leb}
use mathlib.Core.List.{List, [], ◌∷◌}
use Rattle.lists.specs.Pick.{pick_ind}
use Rattle.lists.specs.All.{All, both}
use Rattle.lists.specs.Checks.{decide_ind}
use Rattle.filesystem.specs.Tables.{PAGE_BYTES}
use Rattle.filesystem.specs.Image.{Version}
use Rattle.filesystem.specs.MemoryMaps.{Map}
use Rattle.rules.specs.ValidMaps.{ValidMaps}
use Rattle.rules.proofs.MapLaws.{none_valid}
use Rattle.rules.specs.ValidMaps.{MapMove, MapsValid}
use Rattle.rules.proofs.MapMoves.{judge_maps}
use Rattle.rules.specs.Pages.{Change, first, last, fetches, cuts}
use Rattle.rules.specs.Skeleton.{Config, Event, save, load, EventBytes}
use Rattle.rules.specs.Rules.{Move, refuse, halt, send, finish, add, delete, remap, read_page, begin, fill_page, stored, cut_done, keep_pages, give_up, saving, loading, event_checks, event_action, judge}
use Rattle.machine.specs.Machine.{Store, State, Result, content_at, size_at, read_on, finish_change, pages_stored, ask_store, on_page, pages_from, cleared, apply, step, fresh, final}

module _ (c : Config) (S : Store) where
  abbrev Keeps : Result S → Type 0
  Keeps r = MapsValid r.state.skeleton

  pages_maps : (s : State S) → ValidMaps s.skeleton.maps → (k o : ℕ) (q : Change) (i : ℕ) → Keeps (pages_from c S s k o q i)
  unfolding pages_from on_page ask_store pages_stored finish_change
  pages_maps s v k o q i =
      pick_ind Keeps (ltb i (last q))
      (λ _. pick_ind Keeps (fetches q (size_at c S s k) i) (λ _. record { valid = v; pending = tt }) (λ _. record { valid = v; pending = tt }))
      (λ _. pick_ind Keeps (cuts q) (λ _. record { valid = v; pending = tt }) (λ _. record { valid = v; pending = tt }))

  move_maps : (s : State S) → MapsValid s.skeleton → (m : Move) → MapMove s.skeleton.maps m → Keeps (apply c S s m)
  unfolding apply read_on ask_store finish_change
  move_maps s v (refuse n) h = v
  move_maps s v (halt n) h = record { valid = v.valid; pending = tt }
  move_maps s v (send p q) h = record { valid = v.valid; pending = h }
  move_maps s v (finish t n b) h = record { valid = v.valid; pending = tt }
  move_maps s v (add n) h = record { valid = v.valid; pending = tt }
  move_maps s v (delete k) h = record { valid = v.valid; pending = tt }
  move_maps s v (remap x) h = record { valid = h; pending = tt }
  move_maps s v (read_page k o p n i r) h =
      pick_ind Keeps (S.is_page (content_at c S s k) i r)
      (λ _. pick_ind Keeps (leb (p + n) (i * PAGE_BYTES + PAGE_BYTES)) (λ _. record { valid = v.valid; pending = tt }) (λ _. record { valid = v.valid; pending = tt }))
      (λ _. record { valid = v.valid; pending = tt })
  move_maps s v (begin k o q) h = pages_maps (cleared c S s) v.valid k o q (first q)
  move_maps s v (fill_page k o q i r) h =
      pick_ind Keeps (S.is_page (content_at c S s k) i r) (λ _. record { valid = v.valid; pending = tt }) (λ _. record { valid = v.valid; pending = tt })
  move_maps s v (stored k o q i) h = pages_maps s v.valid k o q (suc i)
  move_maps s v (cut_done k o q) h = record { valid = v.valid; pending = tt }
  move_maps s v (keep_pages k o q i) h = record { valid = v.valid; pending = tt }
  move_maps s v give_up h = record { valid = v.valid; pending = tt }
  move_maps s v saving h = record { valid = v.valid; pending = tt }
  move_maps s v (loading i d) h = record { valid = v.valid; pending = tt }

  pub step_maps : (s : State S) → MapsValid s.skeleton → (e : Event) → EventBytes e → MapsValid (step c S s e).state.skeleton
  unfolding step
  step_maps s v e b = move_maps s v (judge c s.skeleton e) (judge_maps c s.skeleton v e b)

  pub run_maps : (s : State S) → MapsValid s.skeleton → (es : List Event) → All EventBytes es → MapsValid (final c S s es).skeleton
  unfolding final
  run_maps s v [] a = v
  run_maps s v (e ∷ es) (both b a) = run_maps (step c S s e).state (step_maps s v e b) es a

  -- along every run, whatever the host replies
  pub always_maps : (es : List Event) → All EventBytes es → MapsValid (final c S (fresh c S) es).skeleton
  always_maps es a = run_maps (fresh c S) (record { valid = none_valid; pending = tt }) es a

  -- a save and a load leave the maps
  pub save_leaves : (s : State S) (n : ℕ) → (step c S s (save n)).state.skeleton.maps ≡ s.skeleton.maps
  unfolding step judge event_action apply
  save_leaves s n =
      decide_ind refuse (λ m. (apply c S s m).state.skeleton.maps ≡ s.skeleton.maps) (event_checks c s.skeleton (save n)) _ (λ _ _. refl) (λ _. refl)

  pub load_leaves : (s : State S) (v : Version) (i d : List ℕ)
      → (step c S s (load v i d)).state.skeleton.maps ≡ s.skeleton.maps
  unfolding step judge event_action apply
  load_leaves s v i d =
      decide_ind refuse (λ m. (apply c S s m).state.skeleton.maps ≡ s.skeleton.maps)
      (event_checks c s.skeleton (load v i d)) _ (λ _ _. refl) (λ _. refl)

  -- and neither looks at them: what comes back, the nodes, the pages and the saves are the same whatever maps live
  abbrev with_maps : State S → List Map → State S
  with_maps s ms = record {
    skeleton = record { tables = s.skeleton.tables; pending = s.skeleton.pending; stopped = s.skeleton.stopped; maps = ms };
    contents = s.contents;
    progress = s.progress;
    saves = s.saves;
  }

  abbrev Beside : List Map → (r x : Result S) → Type 0
  Beside ms r x = x ≡ record { outcome = r.outcome; state = with_maps r.state ms }

  pub save_blind : (s : State S) (ms : List Map) (n : ℕ) → step c S (with_maps s ms) (save n) ≡ record { outcome = (step c S s (save n)).outcome; state = with_maps (step c S s (save n)).state ms }
  unfolding step judge event_checks event_action apply
  save_blind s ms n =
      decide_ind refuse (λ m. Beside ms (apply c S s m) (apply c S (with_maps s ms) m)) (event_checks c s.skeleton (save n)) saving (λ _ _. refl) (λ _. refl)

  pub load_blind : (s : State S) (ms : List Map) (v : Version) (i d : List ℕ)
      → step c S (with_maps s ms) (load v i d)
      ≡ record { outcome = (step c S s (load v i d)).outcome; state = with_maps (step c S s (load v i d)).state ms }
  unfolding step judge event_checks event_action apply
  load_blind s ms v i d =
      decide_ind refuse (λ m. Beside ms (apply c S s m) (apply c S (with_maps s ms) m))
      (event_checks c s.skeleton (load v i d)) _ (λ _ _. refl) (λ _. refl)
