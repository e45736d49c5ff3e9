-- What the rules ask of the table of maps: where no number of an event's list holds and no reason stops its reply, its move keeps the table valid.
-- Assumes nothing.
use Rattle.std.specs.Prelude.{◌≡◌, ◌↔◌, false, not, List, ◌∷◌, ◌++◌, ℕ, ◌+◌, eqb, length}
use Rattle.std.proofs.Math.Path.{refl}
use Rattle.std.proofs.Common.{ap, true≢false, leb-false, eqb-true, eq-eqb}
use Rattle.std.proofs.Math.Option.{Option, some, none as nothing}
use Rattle.std.proofs.lemmas.Bool.{not-false}
use Rattle.lists.specs.Pick.{pick_ind}
use Rattle.lists.specs.All.{both, Bytes, all_right}
use Rattle.lists.specs.Checks.{Passed, decide_ind}
use Rattle.filesystem.specs.Tables.{Tables}
use Rattle.filesystem.specs.MemoryMaps.{Map}
use Rattle.rules.specs.MapRules.{map_faults}
use Rattle.rules.specs.RightReplies.{RightMap}
use Rattle.rules.specs.ValidMaps.{ValidMaps}
use Rattle.rules.proofs.MapLaws.{begins_valid, ends_valid, map_right, right_map}
use Rattle.rules.specs.Calls.{Call, create, mkdir, open_as, close, seek, read, write, truncate, remove, rmdir, chmod, readdir, stat, map_memory, unmap, read_call}
use Rattle.rules.specs.Calls.{rename}
use Rattle.rules.proofs.CallLaws.{CallFits, call-was-written}
use Rattle.rules.specs.Requests.{asked, Pending, idle, creating, opening, closing, removing, changing, listing, stating, mapping, unmapping, reading, fetching, storing, cutting}
use Rattle.rules.specs.Requests.{renaming}
use Rattle.rules.specs.Skeleton.{Config, Event, call, reply, save, load, EventBytes, Skeleton}
use Rattle.rules.specs.Rules.{refuse, halt, call_checks, read_action, call_action, reply_checks, reply_action, map_checks, map_reasons, reasons, tells_full, full_action, call_or, is_none, event_checks, event_action, judge}
use Rattle.rules.specs.Rules.{same_path}
use Rattle.rules.specs.ValidMaps.{MapFits, MapsValid, MapMove}

call_maps : (ms : List Map) (t : Tables) (w : ℕ) (q : Call) → CallFits w q → Passed (map_checks ms q) → MapMove ms (call_action t w q)
unfolding call_action read_action map_checks
call_maps ms t w (create m p) f a = tt
call_maps ms t w (mkdir m p) f a = tt
call_maps ms t w (open_as r p) f a = tt
call_maps ms t w (close h) f a = tt
call_maps ms t w (seek h n) f a = tt
call_maps ms t w (read h n) f a = pick_ind (MapMove ms) _ (λ _. tt) (λ _. tt)
call_maps ms t w (write h d) f a = pick_ind (MapMove ms) _ (λ _. tt) (λ _. tt)
call_maps ms t w (truncate h n) f a = pick_ind (MapMove ms) _ (λ _. tt) (λ _. tt)
call_maps ms t w (remove p) f a = tt
call_maps ms t w (rmdir p) f a = tt
call_maps ms t w (chmod m p) f a = tt
call_maps ms t w (readdir p) f a = tt
call_maps ms t w (stat p) f a = tt
call_maps ms t w (map_memory n) f (both x _) = (leb-false _ _ x, f)
call_maps ms t w (unmap b) f (both x _) = leb-false _ _ x
call_maps ms t w (rename p q) f a = pick_ind (MapMove ms) (same_path t p q) (λ _. tt) (λ _. tt)

reply_maps : (ms : List Map) (w : ℕ) (t : Tables) (r : List ℕ) (p : Pending) → ValidMaps ms → MapFits ms p → Passed (map_reasons ms r p)
    → MapMove ms (reply_action w t r p)
unfolding reply_action map_reasons
reply_maps ms w t r idle v f a = tt
reply_maps ms w t r (asked (creating p k m name)) v f a = tt
reply_maps ms w t r (asked (opening k rights)) v f a = tt
reply_maps ms w t r (asked (closing o)) v f a = tt
reply_maps ms w t r (asked (removing k)) v f a = tt
reply_maps ms w t r (asked (changing k m)) v f a = tt
reply_maps ms w t r (asked (listing k)) v f a = tt
reply_maps ms w t r (asked (stating k)) v f a = tt
reply_maps ms w t r (asked (mapping n)) v (room, size) a = begins_valid ms n r v room size a
reply_maps ms w t r (asked (unmapping b)) v f a = ends_valid ms b v f
reply_maps ms w t r (asked (renaming k p name)) v f a = tt
reply_maps ms w t r (reading k o p n i) v f a = tt
reply_maps ms w t r (fetching k o q i) v f a = tt
reply_maps ms w t r (storing k o q i) v f a = tt
reply_maps ms w t r (cutting k o q) v f a = tt

full_maps : (ms : List Map) (p : Pending) → MapMove ms (full_action p)
unfolding full_action
full_maps ms idle = tt
full_maps ms (asked x) = tt
full_maps ms (reading k o p n i) = tt
full_maps ms (fetching k o q i) = tt
full_maps ms (storing k o q i) = pick_ind (MapMove ms) _ (λ _. tt) (λ _. tt)
full_maps ms (cutting k o q) = tt

module _ (c : Config) where
  read_maps : (sk : Skeleton) (s : List ℕ) → Bytes s → (o : Option Call) → read_call c.width s ≡ o → is_none o ≡ false → Passed (map_checks sk.maps (call_or o))
      → MapMove sk.maps (call_action sk.tables c.width (call_or o))
  unfolding is_none call_or
  read_maps sk s b nothing e i p = absurd (true≢false i)
  read_maps sk s b (some q) e i p = call_maps sk.maps sk.tables c.width q (call-was-written c.width s q b e).1 p

  action_maps : (sk : Skeleton) → MapsValid sk → (e : Event) → EventBytes e → Passed (event_checks c sk e) → MapMove sk.maps (event_action c sk e)
  unfolding event_checks event_action EventBytes
  action_maps sk v (call s a q) b (both _ (both _ (both _ (both n p)))) =
      read_maps sk s b (read_call c.width s) refl n (all_right (call_checks sk.tables (call_or (read_call c.width s))) _ p)
  action_maps sk v (reply r a q) b p =
      pick_ind (MapMove sk.maps) (tells_full c.width r sk.pending) (λ _. full_maps sk.maps sk.pending)
      (λ _. decide_ind halt (MapMove sk.maps) (reasons c.width sk r) _ (λ _ _. tt)
      (λ x. reply_maps sk.maps c.width sk.tables r sk.pending v.valid v.pending
      (unfold reasons in all_right (reply_checks c.width sk.tables r sk.pending) (map_reasons sk.maps r sk.pending) x)))
  action_maps sk v (save n) b p = tt
  action_maps sk v (load k i d) b p = tt

  pub judge_maps : (sk : Skeleton) → MapsValid sk → (e : Event) → EventBytes e → MapMove sk.maps (judge c sk e)
  unfolding judge
  judge_maps sk v e b = decide_ind refuse (MapMove sk.maps) (event_checks c sk e) (event_action c sk e) (λ _ _. tt) (action_maps sk v e b)

-- A reply to a map is accepted exactly where it is right.
pub accepted_exactly : (w : ℕ) (t : Tables) (ms : List Map) (n : ℕ) (r : List ℕ) → Bytes r
    → Passed (reply_checks w t r (asked (mapping n)) ++ map_reasons ms r (asked (mapping n))) ↔ RightMap ms n r
unfolding reply_checks map_reasons
accepted_exactly w t ms n r b = (
  go,
  λ h. let (l, p) = right_map ms n r h in both (ap not (eq-eqb _ _ l)) p,
)
  where
    go : Passed ((1, not (eqb (length r) (8 + n))) ∷ map_faults ms n r) → RightMap ms n r
    go (both l p) = map_right ms n r b (eqb-true _ _ (not-false _ l)) p
