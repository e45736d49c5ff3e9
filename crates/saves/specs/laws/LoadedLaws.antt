-- What a load leaves, by what its tests found.
-- Assumes nothing.
use Rattle.std.specs.Prelude.{◌≡◌, Bool, true, ℕ, ◌≤◌, ◌<◌}
use Rattle.std.proofs.Math.Path.{refl, ap, ap₂}
use Rattle.std.proofs.Common.{sym, ◌∙◌, arith, take-take}
use Rattle.std.proofs.Math.Bool.{false, not}
use mathlib.Core.List.{List, []}
use Rattle.std.proofs.Math.Option.{Option, some, none}
use Rattle.std.proofs.Math.ListN.{take}
use Rattle.lists.specs.Checks.{check_last, check_stops, check_passes}
use Rattle.lists.specs.Equal.{equal}
use Rattle.digest.specs.Sha256.{sha256}
use Rattle.filesystem.specs.Tables.{ID_BYTES, OpenFile, Tables, page_total}
use Rattle.filesystem.specs.Image.{Image, saved, divide, parse}
use Rattle.filesystem.specs.MemoryMaps.{Map}
use Rattle.memory.specs.Layout.{Mem, mem_of}
use Rattle.tables.specs.View.{view_of}
use Rattle.tables.specs.laws.ContentLaws.{divide_same}
use Rattle.rules.specs.Skeleton.{Config, done}
use Rattle.rules.specs.Rules.{refuse, loading, is_none, image_or}
use Rattle.machine.specs.Machine.{State, ending, apply, guard as digest_store}
use Rattle.guard_state.specs.declared.Guard.{Guard}
use Rattle.rules.specs.Requests.{idle}
use Rattle.guard_state.specs.State.{numbers_of, state_with, state_in, state_of, map_count, maps_in, gathered_none}
use Rattle.guard_state.specs.Waits.{ends, resting_state}
use Rattle.image_writer.specs.Images.{nodes_in, image_in}
use Rattle.image_records.specs.Records.{is_some}
use Rattle.image_loader.specs.Loaded.{Loaded}
use Rattle.refusals.specs.Numbers.{number_of}
use Rattle.refusals.specs.declared.Refusal.{Refusal}
use Rattle.outcomes.specs.declared.Outcome.TheVariants.{Done, Refused}
use Rattle.outcomes.specs.Sent.{settled}
use Rattle.outcomes.specs.laws.SentLaws.{refusal_sends, done_sends}
use Rattle.saves.specs.Saved.{load_move, loaded_from, Loads}
use Rattle.saves.specs.laws.SavedLaws.{some_open, none_open}

none-some : {A : Type 0} (x : Option A) → is_none x ≡ not (is_some x)
unfolding is_none is_some
none-some none = refl
none-some (some a) = refl

module _ (c : Config) (m : List ℕ) (g : Guard) (e : g ≡ numbers_of (mem_of m).head) (i d : List ℕ) where
  abbrev here : State (digest_store c)
  here = state_of c m

  -- which move: 16, 74, 84, or the load
  pub load-used : 0 < g.opens → load_move c here i d ≡ refuse 16
  unfolding load_move
  load-used h = check_stops refuse 16 _ _ _ (some_open c m g e h)

  module _ (closed : g.opens ≤ 0) (hash : c.digest ≡ sha256) (same : Bool) (compared : same ≡ equal (sha256 i) d)
    where
      sealed : not (equal (c.digest i) d) ≡ not same
      sealed = ap (λ (h : List ℕ → List ℕ). not (equal (h i) d)) hash ∙ ap not (sym compared)

      pub load_unsealed : same ≡ false → load_move c here i d ≡ refuse 74
      unfolding load_move
      load_unsealed h = check_passes refuse 16 _ _ _ (none_open c m g e closed) ∙ check_stops refuse 74 _ _ _ (sealed
          ∙ ap not h)

      module _ (known : same ≡ true) (wide : c.width ≡ ID_BYTES) (good : Bool)
          (judged : good ≡ is_some (parse (saved ID_BYTES) i)) where
        parsed : is_none (parse (saved c.width) i) ≡ not good
        parsed =
            ap (λ (w : ℕ). is_none (parse (saved w) i)) wide ∙ none-some (parse (saved ID_BYTES) i) ∙ ap not (sym judged)

        pub load-unsound : good ≡ false → load_move c here i d ≡ refuse 84
        unfolding load_move
        load-unsound h =
            check_passes refuse 16 _ _ _ (none_open c m g e closed)
            ∙ check_passes refuse 74 _ _ _ (sealed ∙ ap not known)
            ∙ check_stops refuse 84 _ _ _ (parsed ∙ ap not h)

        pub load_goes : good ≡ true → load_move c here i d ≡ loading (image_or (parse (saved ID_BYTES) i)) d
        unfolding load_move
        load_goes h =
            check_passes refuse 16 _ _ _ (none_open c m g e closed)
            ∙ check_passes refuse 74 _ _ _ (sealed ∙ ap not known)
            ∙ check_last refuse 84 _ _ (parsed ∙ ap not h)
            ∙ ap (λ (w : ℕ). loading (image_or (parse (saved w) i)) d) wide

  pub load_refused : (e : Refusal) → load_move c here i d ≡ refuse (number_of e)
      → Loads c (loaded_from c here i d) (Refused e) m
  unfolding loaded_from settled
  load_refused e z = let l = refusal_sends c here _ e m [] z refl in record {
    state = l.state;
    answer = l.answer [];
    count = l.count;
  }

  -- the open files stay: there are none
  no-opens : g.opens ≤ 0 → here.skeleton.tables.opens ≡ []
  unfolding state_of state_in view_of
  no-opens h =
      let o = ap (λ (x : Guard). x.opens) e in
      let z : (numbers_of (mem_of m).head).opens ≡ 0 = omega (arith, o) in
      ap (λ (k : ℕ). take k (mem_of m).opens) z

  -- the memory with the image's tables, at rest, is what the machine goes on with
  module _ (closed : g.opens ≤ 0) (after : List ℕ) (n : ℕ) (l : Loaded (saved ID_BYTES) i m after n) where
    abbrev tables : Tables
    tables = record { nodes = nodes_in n after; opens = here.skeleton.tables.opens }

    abbrev contents : List (List (List ℕ))
    contents = divide (nodes_in n after) (image_in n after).1

    move-loads : load_move c here i d ≡ loading (image_or (parse (saved ID_BYTES) i)) d
        → apply c (digest_store c) here (load_move c here i d) ≡ ending c (digest_store c) here (done 0 []) tables contents
    unfolding apply image_or
    move-loads z = ap (apply c (digest_store c) here) (z ∙ ap (λ (y : Option Image). loading (image_or y) d) l.tables)

    same_contents : divide (nodes_in n after) (mem_of after).digests ≡ contents
    same_contents = let p = page_total (nodes_in n after) in divide_same (nodes_in n after) _ _
        (sym (take-take p p (mem_of after).digests (omega arith)))

    same_maps : maps_in (view_of n 0 (mem_of after)) ≡ here.skeleton.maps
    unfolding state_of state_in view_of
    same_maps = ap (λ (z : Mem). take (map_count z.head) z.maps) l.rest

    rests_loaded : resting_state c (view_of n 0 (mem_of after)) ≡ ends c here tables contents
    unfolding resting_state ends view_of
    rests_loaded =
        ap (λ (ms : List Map). state_with c (view_of n 0 (mem_of after)) ms idle false gathered_none) same_maps
        ∙ ap₂ (λ (o : List OpenFile) (x : List (List (List ℕ))). ends c here
        (record { nodes = nodes_in n after; opens = o }) x) (sym (no-opens closed)) same_contents

    pub load_done : (m' : List ℕ) → load_move c here i d ≡ loading (image_or (parse (saved ID_BYTES) i)) d
        → state_of c m' ≡ resting_state c (view_of n 0 (mem_of after))
        → Loads c (loaded_from c here i d) (Done 0 0) m'
    unfolding loaded_from settled
    load_done m' z s =
        let l = done_sends c here _ tables contents 0 m' [] (move-loads z) (s ∙ rests_loaded) in
        record { state = l.state; answer = l.answer []; count = l.count }
