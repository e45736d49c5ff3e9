-- What a save leaves, by what its tests found.
-- Assumes nothing.
use Rattle.std.specs.Prelude.{◌≡◌, true, false, List, map, ℕ, ◌+◌, ◌≤◌, ◌<◌, ltb, length, drop}
use Rattle.std.proofs.Math.Path.{ap}
use Rattle.std.proofs.Common.{ap₂, sym, ◌∙◌, map-id, arith, length-append, take-take, length-take-le, lt-ltb, le-ltb}
use Rattle.std.proofs.Math.ListN.{take}
use Rattle.lists.specs.Checks.{check_last, check_stops, check_passes}
use Rattle.lists.specs.Parts.{overwrite}
use Rattle.lists.specs.PartLaws.{take_overwrite, overwrite_front}
use Rattle.digest.specs.Sha256.{sha256}
use Rattle.filesystem.specs.Tables.{ID_BYTES, PAGES, Node, page_total}
use Rattle.filesystem.specs.Image.{saved, flatten, divide, print, image_length}
use Rattle.filesystem.specs.ImageLaws.{flatten-divide}
use Rattle.memory.specs.Layout.{mem_of}
use Rattle.memory.specs.laws.MemLaws.{length_digests}
use Rattle.tables.specs.View.{view_of}
use Rattle.tables.specs.laws.ContentLaws.{divide_same}
use Rattle.rules.specs.Skeleton.{Config, done, answer_bytes, at_front, image_after}
use Rattle.rules.specs.Rules.{Move, refuse, saving}
use Rattle.machine.specs.Machine.{State, Result, image_of, saved_as, apply, guard as digest_store}
use Rattle.guard_state.specs.declared.Guard.{Guard}
use Rattle.guard_state.specs.State.{numbers_of, state_in, state_of}
use Rattle.guard_state.specs.Waits.{ends}
use Rattle.guard_state.specs.laws.LoadedLaws.{opens-count}
use Rattle.image_writer.specs.Images.{nodes_in, image_in}
use Rattle.refusals.specs.Numbers.{number_of}
use Rattle.refusals.specs.declared.Refusal.{Refusal}
use Rattle.refusals.specs.declared.Refusal.TheVariants.{NoSpace}
use Rattle.outcomes.specs.declared.Outcome.TheVariants.{Done, Refused}
use Rattle.outcomes.specs.Values.{length_of, bytes_in, answer_in}
use Rattle.saves.specs.Saved.{save_move, saved_into, Saves}

-- the digests in use, as they stand in the memory
pub flatten_front : (ns : List Node) (ds : List (List ℕ)) → page_total ns ≤ length ds
    → flatten (divide ns ds) ≡ take (page_total ns) ds
flatten_front ns ds h =
    let p = page_total ns in
    ap flatten (divide_same ns ds (take p ds) (sym (take-take p p ds (omega arith))))
    ∙ flatten-divide ns (take p ds) (length-take-le p ds h)

-- an image at the front of a buffer: it fits, and is the front
module _ (l x l' : List ℕ) (n : ℕ) (e : l' ≡ overwrite l 0 x) (k : n ≡ 0 + length x) where
  pub front_fits : n ≤ length l'
  front_fits = let f = ap length (e ∙ overwrite_front l x) ∙ length-append x (drop (length x) l) in omega arith

  pub front_is : take n l' ≡ x
  front_is = ap (take n) e ∙ take_overwrite l 0 x n k (omega arith)

-- what was loaded of the header, and the state's tables
module _ (c : Config) (m : List ℕ) (g : Guard) (e : g ≡ numbers_of (mem_of m).head) where
  abbrev here : State (digest_store c)
  here = state_of c m

  pub some_open : 0 < g.opens → ltb 0 (length here.skeleton.tables.opens) ≡ true
  some_open h = lt-ltb 0 (length here.skeleton.tables.opens)
      (omega (arith, opens-count c m, ap (λ (x : Guard). x.opens) e))

  pub none_open : g.opens ≤ 0 → ltb 0 (length here.skeleton.tables.opens) ≡ false
  none_open h = le-ltb 0 (length here.skeleton.tables.opens)
      (omega (arith, opens-count c m, ap (λ (x : Guard). x.opens) e))

  nodes-held : here.skeleton.tables.nodes ≡ nodes_in g.nodes m
  unfolding state_of state_in view_of
  nodes-held = ap (λ (x : Guard). take x.nodes (mem_of m).nodes) (sym e)

  contents-held : here.contents ≡ divide (nodes_in g.nodes m) (mem_of m).digests
  unfolding state_of state_in view_of
  contents-held = ap (λ (x : Guard). divide (take x.nodes (mem_of m).nodes) (mem_of m).digests) (sym e)

  -- the image of the state is that of the rows in use
  pub image-held : c.width ≡ ID_BYTES → page_total (nodes_in g.nodes m) ≤ PAGES
      → image_of c (digest_store c) here ≡ print (saved ID_BYTES) (image_in g.nodes m)
  image-held wide few =
      let ns = nodes_in g.nodes m in
      let f = flatten_front ns (mem_of m).digests (rw (length_digests m) few) in
      let d = ap flatten (map-id here.contents ∙ contents-held) ∙ f in
      ap (λ (w : ℕ). print (saved w) (here.skeleton.tables.nodes, flatten (map (λ x. x) here.contents))) wide
      ∙ ap₂ (λ (u : List Node) (v : List (List ℕ)). print (saved ID_BYTES) (u, v)) nodes-held d

  -- more pages than the limit are in no valid tables
  pub save_never : (i d : List ℕ) (p : ℕ) → page_total here.skeleton.tables.nodes ≤ PAGES
      → p ≡ page_total (nodes_in g.nodes m) → PAGES < p
      → Saves c (saved_into c here (length i)) (Refused NoSpace) m i i d d
  save_never i d p few count h = absurd (omega (arith, ap page_total nodes-held))

  length-held : c.width ≡ ID_BYTES
      → image_length (saved c.width) here.skeleton.tables.nodes
      ≡ image_length (saved ID_BYTES) (nodes_in g.nodes m)
  length-held wide = ap₂ (λ (w : ℕ) (ns : List Node). image_length (saved w) ns) wide nodes-held

  -- which move: 16, 34, or the save
  pub save_used : (n : ℕ) → 0 < g.opens → save_move c here n ≡ refuse 16
  unfolding save_move
  save_used n h = check_stops refuse 16 _ _ _ (some_open h)

  module _ (closed : g.opens ≤ 0) (wide : c.width ≡ ID_BYTES) (n l : ℕ)
      (measured : l ≡ image_length (saved ID_BYTES) (nodes_in g.nodes m)) where
    pub save_short : n < l → save_move c here n ≡ refuse 34
    unfolding save_move
    save_short h =
        check_passes refuse 16 _ _ _ (none_open closed)
        ∙ check_stops refuse 34 _ _ _ (lt-ltb n (image_length (saved c.width) here.skeleton.tables.nodes)
        (omega (arith, length-held wide)))

    pub save_goes : l ≤ n → save_move c here n ≡ saving
    unfolding save_move
    save_goes h =
        check_passes refuse 16 _ _ _ (none_open closed)
        ∙ check_last refuse 34 _ _ (le-ltb n (image_length (saved c.width) here.skeleton.tables.nodes)
        (omega (arith, length-held wide)))

-- a refusal leaves everything alone
pub refusal_saves : (c : Config) (m i d : List ℕ) (v : Move) (e : Refusal) → v ≡ refuse (number_of e)
    → Saves c (apply c (digest_store c) (state_of c m) v) (Refused e) m i i d d
unfolding apply answer_in length_of bytes_in image_after answer_bytes overwrite
refusal_saves c m i d v e z = record {
  state = ap (λ w. (apply c (digest_store c) (state_of c m) w).state) (sym z);
  answer = ap (λ w. (apply c (digest_store c) (state_of c m) w).outcome.answer) (sym z);
  count = ap (λ w. bytes_in (apply c (digest_store c) (state_of c m) w).outcome.answer) (sym z);
  image = ap (λ w. image_after (apply c (digest_store c) (state_of c m) w).outcome.answer i) (sym z);
  digest = ap (λ w. at_front (apply c (digest_store c) (state_of c m) w).outcome.digest d) (sym z);
}

pub save_refused : (c : Config) (m i d : List ℕ) (e : Refusal)
    → save_move c (state_of c m) (length i) ≡ refuse (number_of e)
    → Saves c (saved_into c (state_of c m) (length i)) (Refused e) m i i d d
unfolding saved_into
save_refused c m i d e z = refusal_saves c m i d _ e z

-- the image x, the state's own, is at the front of the buffer, its digest beside it
pub save_done : (c : Config) (m i d m' i' d' x : List ℕ) (l : ℕ) → c.digest ≡ sha256
    → save_move c (state_of c m) (length i) ≡ saving
    → image_of c (digest_store c) (state_of c m) ≡ x
    → state_of c m' ≡ ends c (state_of c m) (state_of c m).skeleton.tables (state_of c m).contents → i' ≡ at_front x i
    → d' ≡ at_front (sha256 x) d → l ≡ length x
    → Saves c (saved_into c (state_of c m) (length i)) (Done l l) m' i i' d d'
unfolding saved_into apply answer_in length_of bytes_in image_after answer_bytes ends
save_done c m i d m' i' d' x l hash z y s f g k =
    let S = digest_store c in
    let R : Result S = saved_as c S (state_of c m) x in
    let q : saved_into c (state_of c m) (length i) ≡ R = ap (apply c S (state_of c m)) z
    ∙ ap (saved_as c S (state_of c m)) y in
    record {
      state = s ∙ ap (λ (r : Result S). r.state) (sym q);
      answer = ap₂ done k (ap₂ take k f ∙ take_overwrite i 0 x (length x) (omega arith) (omega arith))
          ∙ ap (λ (r : Result S). r.outcome.answer) (sym q);
      count = k ∙ ap (λ (r : Result S). bytes_in r.outcome.answer) (sym q);
      image = f ∙ ap (λ (r : Result S). image_after r.outcome.answer i) (sym q);
      digest = g ∙ ap (λ (h : List ℕ → List ℕ). at_front (h x) d) (sym hash)
          ∙ ap (λ (r : Result S). at_front r.outcome.digest d) (sym q);
    }
