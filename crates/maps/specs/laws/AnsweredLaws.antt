-- A call on maps as it begins, and its reply, from the state that the memory has.
-- Assumes nothing.
use Rattle.std.specs.Prelude.{◌≡◌, not, List, [], ◌∷◌, ◌++◌, ℕ, ◌+◌, ◌≤◌, ◌<◌, eqb, take}
use Rattle.std.proofs.Math.Path.{refl, sym, subst}
use Rattle.std.proofs.Common.{ap, ◌∙◌, arith, length-take-le, le-leb}
use Rattle.std.proofs.Math.ListN.{length}
use Rattle.std.proofs.lemmas.Bool.{lt-leb}
use Rattle.lists.specs.LittleEndian.{encode, length-encode}
use Rattle.lists.specs.All.{All, both, none}
use Rattle.lists.specs.Checks.{decide, check_stops, check_last}
use Rattle.lists.specs.Search.{without}
use Rattle.filesystem.specs.Tables.{ID_BYTES, Tables}
use Rattle.filesystem.specs.MemoryMaps.{Map, MAPS}
use Rattle.memory.specs.Layout.{Mem, mem_of, with_maps}
use Rattle.memory.specs.laws.MemLaws.{length_maps}
use Rattle.rules.specs.MapRules.{map_in, find_map, begins, ends, maps_after, map_number, map_faults}
use Rattle.rules.specs.ValidMaps.{MapFits}
use Rattle.rules.specs.Calls.{map_memory, unmap, call_bytes}
use Rattle.rules.specs.Requests.{Pending, asked, mapping, unmapping, store_length}
use Rattle.rules.specs.Skeleton.{Config, at_front}
use Rattle.rules.specs.Rules.{refuse, halt, remap, call_action, map_checks, map_reasons, reply_checks, reply_action}
use Rattle.machine.specs.Machine.{State, guard as digest_store}
use Rattle.machine.specs.Consistent.{Consistent}
use Rattle.guard_state.specs.State.{numbers_of, map_count, state_in, state_of, gathered_none}
use Rattle.guard_state.specs.Waits.{waits, remaps}
use Rattle.tables.specs.View.{view_of}
use Rattle.refusals.specs.Numbers.{reason_number}
use Rattle.refusals.specs.declared.Refusal.TheVariants.{TooManyMaps, Invalid}
use Rattle.refusals.specs.declared.StopReason.{StopReason}
use Rattle.refusals.specs.laws.NumberLaws.{reason_positive}
use Rattle.outcomes.specs.declared.Outcome.TheVariants.{Done, Ask, Refused, Stopped}
use Rattle.outcomes.specs.Sent.{Sends}
use Rattle.outcomes.specs.Started.{map_started}
use Rattle.outcomes.specs.Answered.{taken, answered}
use Rattle.outcomes.specs.laws.SentLaws.{refusal_sends, stop_sends, remap_sends, request_sends}
use Rattle.replies.specs.Judged.{status_reason, reason_for}
use Rattle.replies.specs.laws.TakenLaws.{Positive, stopped_by, passes, at_width, taken_on}
use Rattle.maps.specs.Judged.{map_reason}

-- as many maps as the header says
pub maps_count : (c : Config) (m : List ℕ) → length (state_of c m).skeleton.maps ≡ map_count (mem_of m).head
unfolding state_of state_in view_of map_count
maps_count c m = length-take-le _ (mem_of m).maps (omega (arith, length_maps m))

pub count_fits : (h : List ℕ) → map_count h ≤ MAPS
unfolding map_count
count_fits h = omega arith

pub maps_loaded : (c : Config) (m : List ℕ) (n : ℕ) → n ≡ map_count (mem_of m).head
    → take n (mem_of m).maps ≡ (state_of c m).skeleton.maps
unfolding state_of state_in view_of
maps_loaded c m n e = ap (λ (k : ℕ). take k (mem_of m).maps) e

-- what the pending call has of the maps
pub map-known : (c : Config) (m : List ℕ) → Consistent c (state_of c m) → (p : Pending)
    → (state_of c m).skeleton.pending ≡ p → MapFits (state_of c m).skeleton.maps p
map-known c m h p e = subst (MapFits (state_of c m).skeleton.maps) e h.maps.pending

-- Calls.
module _ (c : Config) (s : State (digest_store c)) where
  abbrev live : List Map
  live = s.skeleton.maps

  pub map_refused : (n : ℕ) (m q : List ℕ) → MAPS ≤ length live → state_of c m ≡ s
      → Sends c (map_started c s (map_memory n)) (Refused TooManyMaps) m q q
  unfolding map_started map_checks
  map_refused n m q h g = refusal_sends c s _ TooManyMaps m q (check_stops refuse 12 _ _ _ (le-leb _ _ h)) g

  pub map_sends : (n k : ℕ) (m q q' : List ℕ) → k ≡ 5 → length live < MAPS → state_of c m ≡ waits c s (asked (mapping n)) gathered_none
      → q' ≡ at_front (14 ∷ encode 4 n) q → store_length ≤ length q
      → Sends c (map_started c s (map_memory n)) (Ask k) m q q'
  unfolding map_started map_checks call_action call_bytes store_length
  map_sends n k m q q' z h g u l =
      let e : length (14 ∷ encode 4 n) ≡ 5 = omega (arith, length-encode 4 n) in
      request_sends c s _ (asked (mapping n)) (14 ∷ encode 4 n) m q q' (Ask k)
      (check_last refuse 12 _ _ (lt-leb _ _ h)) g u (ap Ask (z ∙ sym e)) (omega arith)

  pub unmap_refused : (a : ℕ) (m q : List ℕ) → length live ≤ find_map live a → state_of c m ≡ s
      → Sends c (map_started c s (unmap a)) (Refused Invalid) m q q
  unfolding map_started map_checks
  unmap_refused a m q h g = refusal_sends c s _ Invalid m q (check_stops refuse 22 _ _ _ (le-leb _ _ h)) g

  pub unmap_sends : (a k : ℕ) (m q q' : List ℕ) → k ≡ 9 → find_map live a < length live
      → state_of c m ≡ waits c s (asked (unmapping a)) gathered_none → q' ≡ at_front (15 ∷ encode 8 a) q
      → store_length ≤ length q
      → Sends c (map_started c s (unmap a)) (Ask k) m q q'
  unfolding map_started map_checks call_action call_bytes store_length
  unmap_sends a k m q q' z h g u l =
      let e : length (15 ∷ encode 8 a) ≡ 9 = omega (arith, length-encode 8 a) in
      request_sends c s _ (asked (unmapping a)) (15 ∷ encode 8 a) m q q' (Ask k)
      (check_last refuse 22 _ _ (lt-leb _ _ h)) g u (ap Ask (z ∙ sym e)) (omega arith)

-- Replies.
module _ (c : Config) (wide : c.width ≡ ID_BYTES) (s : State (digest_store c)) (r : List ℕ) where
  abbrev t : Tables
  t = s.skeleton.tables

  module _ (n : ℕ) (waiting : s.skeleton.pending ≡ asked (mapping n)) where
    all_positive : All Positive ((1, not (eqb (length r) (8 + n))) ∷ map_faults s.skeleton.maps n r)
    unfolding map_faults
    all_positive = both refl (both refl (both refl (both refl (both refl (both refl none)))))

    map-taken : taken c s r ≡ decide halt ((1, not (eqb (length r) (8 + n))) ∷ map_faults s.skeleton.maps n r)
        (remap (begins (map_in n r)))
    unfolding reply_checks map_reasons reply_action decide
    map-taken = at_width c wide s r (asked (mapping n)) waiting refl

    pub map-stops : (b : StopReason) (m q : List ℕ) → reason_number b ≡ map_reason s.skeleton.maps n r
        → state_of c m ≡ s
        → Sends c (answered c s r) (Stopped b) m q q
    unfolding answered map_reason
    map-stops b m q e g =
        stop_sends c s _ b m q (map-taken ∙ stopped_by _ _ all_positive (reason_number b) e (reason_positive b)) g

    pub map_joins : (a : ℕ) (m q : List ℕ) → 0 ≡ map_reason s.skeleton.maps n r → a ≡ (map_in n r).address
        → state_of c m ≡ remaps c s (s.skeleton.maps ++ (map_in n r ∷ []))
        → Sends c (answered c s r) (Done a 0) m q q
    unfolding answered map_reason maps_after map_number
    map_joins a m q e f g =
        subst (λ (i : ℕ). Sends c (answered c s r) (Done i 0) m q q) (sym f)
        (remap_sends c s _ (begins (map_in n r)) m q (map-taken ∙ passes _ _ all_positive e) g)

  module _ (a : ℕ) (waiting : s.skeleton.pending ≡ asked (unmapping a)) where
    pub unmap_reason : reason_for t r (asked (unmapping a)) ≡ status_reason r 0
    unfolding reason_for status_reason reply_checks
    unmap_reason = refl

    pub map_leaves : (m q : List ℕ) → 0 ≡ reason_for t r (asked (unmapping a))
        → state_of c m ≡ remaps c s (without (find_map s.skeleton.maps a) s.skeleton.maps)
        → Sends c (answered c s r) (Done 0 0) m q q
    unfolding answered map_reasons reply_action decide maps_after map_number
    map_leaves m q e g = remap_sends c s _ (ends a) m q (taken_on c wide s r (asked (unmapping a)) waiting refl e) g

-- the rows of maps say nothing of the files
pub over_maps : (c : Config) (m x : List ℕ) (rows ms : List Map) → mem_of x ≡ with_maps rows (mem_of m)
    → remaps c (state_of c x) ms ≡ remaps c (state_of c m) ms
unfolding state_of state_in view_of remaps
over_maps c m x rows ms e =
    ap (λ (z : Mem). let g = numbers_of z.head in remaps c (state_in c g (view_of g.nodes g.opens z)) ms) e
