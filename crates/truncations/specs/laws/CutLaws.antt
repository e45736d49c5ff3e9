-- A pending truncation's requests, by the numbers that were loaded: the page that the new end lies in is stored, the
-- file is cut.
-- Assumes nothing.
use Rattle.std.specs.Prelude.{◌≡◌, List, [], ◌∷◌, ◌++◌, ℕ, ◌/◌, ◌%◌, ◌<◌, ◌≤◌, length}
use Rattle.std.proofs.Math.Path.{refl, ap, sym, subst}
use Rattle.std.proofs.Common.{◌∙◌, lt-ltb, le-ltb}
use native.Mathlib.Omega.{arith}
use Rattle.lists.specs.LittleEndian.{encode}
use Rattle.lists.specs.Parts.{part}
use Rattle.lists.specs.Pick.{pick, pick_true, pick-false}
use Rattle.filesystem.specs.Tables.{PAGE_BYTES, Node, OpenFile, pages_for, node_at, open_at}
use Rattle.memory.specs.Layout.{mem_of}
use Rattle.rules.specs.Pages.{shrinking, last, fetches, fill, size_sent, cuts, size_after}
use Rattle.rules.specs.Requests.{Pending, fetching, storing, cutting, fetch_request, store_request, cut_request}
use Rattle.rules.specs.Requests.{store_length}
use Rattle.rules.specs.Skeleton.{Config, at_front}
use Rattle.machine.specs.Machine.{State, Result, Gathered, asking, ask_store, on_page, pages_stored, pages_from}
use Rattle.machine.specs.Machine.{descriptor_at, guard as digest_store}
use Rattle.guard_state.specs.declared.Guard.{Guard}
use Rattle.guard_state.specs.State.{numbers_of, pendings, pending_in, state_of}
use Rattle.guard_state.specs.laws.LoadedLaws.{open_loaded, node-there}
use Rattle.guard_state.specs.Onward.{goes_on}
use Rattle.guard_state.specs.Waits.{waits}
use Rattle.outcomes.specs.declared.Outcome.{Outcome}
use Rattle.outcomes.specs.declared.Outcome.TheVariants.{Ask}
use Rattle.outcomes.specs.Sent.{Sends}
use Rattle.outcomes.specs.laws.SentLaws.{asking_sends}
use Rattle.page_changes.specs.Asked.{store_front}
use Rattle.page_changes.specs.laws.AskedLaws.{store_sends}
use Rattle.page_changes.specs.Sending.{Sending}
use Rattle.page_changes.specs.laws.SendingLaws.{change_progress, node_within, open_within}
use Rattle.truncations.specs.Shrinking.{Shrinking, shrink_in}

-- a cut fits the request buffer
pub cut_most : (d n : ℕ) → length (cut_request d n) ≤ store_length
unfolding cut_request store_length encode
cut_most d n = omega arith

-- on a page's edge there is no page to store, inside one it is fetched
module _ (c : Config) (s : State (digest_store c)) (k o n : ℕ) where
  pub edge_cuts : n % PAGE_BYTES ≡ 0 → pages_from c (digest_store c) s k o (shrinking n) (n / PAGE_BYTES) ≡ pages_stored c
      (digest_store c) s k o (shrinking n)
  unfolding pages_from last pages_for
  edge_cuts h = pick-false _ _ _ (le-ltb (n / PAGE_BYTES) _ (omega arith))

  pub inside-fetches : (n % PAGE_BYTES ≡ 0 → ⊥) → pages_from c (digest_store c) s k o (shrinking n) (n / PAGE_BYTES)
      ≡ asking c (digest_store c) s (fetch_request (descriptor_at c (digest_store c) s o) (n / PAGE_BYTES))
      (fetching k o (shrinking n) (n / PAGE_BYTES)) s.progress
  unfolding pages_from on_page last pages_for fetches pick
  inside-fetches h = pick_true _ _ _ (lt-ltb (n / PAGE_BYTES) _ (omega arith))

module _ (c : Config) (m : List ℕ) where
  abbrev g : Guard
  g = numbers_of (mem_of m).head

  -- what it waits for as it goes on
  pub on_fetching : (i : ℕ) → pending_in (goes_on 11 i g) (mem_of m).staged ≡ fetching g.node g.opened (shrink_in m)
      i
  unfolding pending_in pendings goes_on shrink_in
  on_fetching i = refl

  on_storing : (i : ℕ) → pending_in (goes_on 12 i g) (mem_of m).staged ≡ storing g.node g.opened (shrink_in m) i
  unfolding pending_in pendings goes_on shrink_in
  on_storing i = refl

  on_cutting : (i : ℕ) → pending_in (goes_on 13 i g) (mem_of m).staged ≡ cutting g.node g.opened (shrink_in m)
  unfolding pending_in pendings goes_on shrink_in
  on_cutting i = refl

  module _ (l : Guard) (loaded : l ≡ numbers_of (mem_of m).head) where
    opened-loaded : (d : ℕ) → g.opened < g.opens → d ≡ (open_at (mem_of m).opens l.opened).descriptor
        → d ≡ descriptor_at c (digest_store c) (state_of c m) g.opened
    opened-loaded d h e =
        e ∙ ap (λ (x : Guard). (open_at (mem_of m).opens x.opened).descriptor) loaded
        ∙ ap (λ (x : OpenFile). x.descriptor) (open_loaded m c g.opened h)

    pub cut_sends : (d i : ℕ) (x : Outcome) (m' q q' : List ℕ) → g.opened < g.opens
        → d ≡ (open_at (mem_of m).opens l.opened).descriptor
        → state_of c m' ≡ waits c (state_of c m) (pending_in (goes_on 13 i g) (mem_of m).staged) (state_of c m).progress
        → q' ≡ at_front (cut_request d l.size) q → x ≡ Ask (length (cut_request d l.size)) → store_length ≤ length q
        → Sends c (pages_stored c (digest_store c) (state_of c m) g.node g.opened (shrink_in m)) x m' q q'
    unfolding pages_stored shrink_in cuts size_after pick
    cut_sends d i x m' q q' h e w u r z =
        let s = state_of c m in
        let p = cutting g.node g.opened (shrink_in m) in
        let n : l.size ≡ g.size = ap (λ (y : Guard). y.size) loaded in
        asking_sends c s _ p (cut_request d l.size) s.progress m' q q' x
        (λ t. asking c (digest_store c) s (cut_request (sym (opened-loaded d h e) t) (sym n t)) p s.progress)
        (w ∙ ap (λ (y : Pending). waits c s y s.progress) (on_cutting i)) u r (omega (arith, cut_most d l.size))

    -- the fetched page goes out, with zeros from the new end on
    pub page_sends : (d z : ℕ) (r : List ℕ) (x : Outcome) (m' b b' : List ℕ) → Shrinking g.call
        → Sending c m (shrink_in m) g.page
        → d ≡ (open_at (mem_of m).opens l.opened).descriptor → z ≡ (node_at (mem_of m).nodes l.node).size
        → b' ≡ at_front (store_request d l.page z (fill (shrinking l.size) l.page r)) b → store_length ≤ length b
        → x ≡ Ask store_length
        → state_of c m' ≡ waits c (state_of c m) (pending_in (goes_on 12 l.page g) (mem_of m).staged)
        (record {
          bytes = [];
          digests = (state_of c m).progress.digests ++ (c.digest (part store_front PAGE_BYTES b')
              ∷ []);
        })
        → Sends c (ask_store c (digest_store c) (state_of c m) g.node g.opened (shrink_in m) g.page r) x m' b b'
    unfolding shrink_in size_sent
    page_sends d z r x m' b b' k h e f u v y w =
        let s = state_of c m in
        let a : Gathered = record {
          bytes = [];
          digests = s.progress.digests
              ++ (c.digest (part store_front PAGE_BYTES b') ∷ []);
        } in
        store_sends c s g.node g.opened (shrink_in m) g.page r d z m' b b' x
        (opened-loaded d (open_within c m (shrink_in m) g.page h) e)
        (f ∙ ap (λ (j : Guard). (node_at (mem_of m).nodes j.node).size) loaded
        ∙ ap (λ (n : Node). n.size) (node-there m c g.node (node_within c m (shrink_in m) g.page h)))
        (ap (λ (j : Gathered). j.bytes) (change_progress c m (omega arith, k.1)))
        (u ∙ ap (λ (j : Guard). at_front (store_request d j.page z (fill (shrinking j.size) j.page r)) b) loaded)
        v y
        (w ∙ ap (λ (j : Guard). waits c s (pending_in (goes_on 12 j.page g) (mem_of m).staged) a) loaded
        ∙ ap (λ (j : Pending). waits c s j a) (on_storing g.page))

    -- it starts, by whether the new end lies on a page's edge
    pub start-cuts : (x : Outcome) (m' b b' : List ℕ) → l.size % PAGE_BYTES ≡ 0
        → Sends c (pages_stored c (digest_store c) (state_of c m) g.node g.opened (shrink_in m)) x m' b b'
        → Sends c (pages_from c (digest_store c) (state_of c m) g.node g.opened (shrink_in m) (g.size / PAGE_BYTES))
        x m' b b'
    unfolding shrink_in
    start-cuts x m' b b' e h =
        subst (λ (y : Result (digest_store c)). Sends c y x m' b b')
        (sym (edge_cuts c (state_of c m) g.node g.opened g.size (ap (λ (j : Guard). j.size % PAGE_BYTES)
        (sym loaded) ∙ e))) h

    pub start-fetches : (x : Outcome) (m' b b' : List ℕ) → (l.size % PAGE_BYTES ≡ 0 → ⊥)
        → Sends c (asking c (digest_store c) (state_of c m)
        (fetch_request (descriptor_at c (digest_store c) (state_of c m) g.opened) (l.size / PAGE_BYTES))
        (pending_in (goes_on 11 (l.size / PAGE_BYTES) g) (mem_of m).staged) (state_of c m).progress) x m' b b'
        → Sends c (pages_from c (digest_store c) (state_of c m) g.node g.opened (shrink_in m) (g.size / PAGE_BYTES))
        x m' b b'
    unfolding shrink_in
    start-fetches x m' b b' e h =
        let s = state_of c m in
        let d = descriptor_at c (digest_store c) s g.opened in
        subst (λ (y : Result (digest_store c)). Sends c y x m' b b')
        (ap (λ (p : Pending). asking c (digest_store c) s (fetch_request d (l.size / PAGE_BYTES)) p s.progress)
        (on_fetching (l.size / PAGE_BYTES))
        ∙ ap (λ (j : Guard). asking c (digest_store c) s (fetch_request d (j.size / PAGE_BYTES))
        (fetching g.node g.opened (shrink_in m) (j.size / PAGE_BYTES)) s.progress) loaded
        ∙ sym (inside-fetches c s g.node g.opened g.size
        (λ z. e (ap (λ (j : Guard). j.size % PAGE_BYTES) loaded ∙ z)))) h
