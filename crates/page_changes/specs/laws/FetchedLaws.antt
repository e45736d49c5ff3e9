-- What a reply comes to that a pending change waits for: a stop, a page that goes out, the next page, or the end.
-- Assumes nothing.
use Rattle.std.specs.Prelude.{◌≡◌, refl, List, [], ◌++◌, ℕ, suc, ◌<◌, ◌≤◌, eqb, length, get_or}
use Rattle.std.proofs.Math.Path.{ap, sym, subst}
use Rattle.std.proofs.Common.{◌∙◌, arith, le-ltb}
use Rattle.std.proofs.Math.Bool.{not}
use Rattle.lists.specs.Pick.{pick, pick_true, pick-false}
use Rattle.lists.specs.Equal.{equal, Is, is_t, is_f, is}
use Rattle.lists.specs.Checks.{decide}
use Rattle.digest.specs.Sha256.{sha256}
use Rattle.filesystem.specs.Tables.{PAGE_BYTES, ID_BYTES, Node, pages_for, node_at}
use Rattle.memory.specs.Layout.{mem_of}
use Rattle.tables.specs.View.{view_of}
use Rattle.rules.specs.Pages.{Change, last, stores_more, cuts_more}
use Rattle.rules.specs.Requests.{Pending, fetching, storing, cutting}
use Rattle.rules.specs.Skeleton.{Config}
use Rattle.rules.specs.Rules.{halt, fill_page, reply_checks, map_reasons, reasons, reply_action, tells_full}
use Rattle.rules.specs.Rules.{full_action}
use Rattle.machine.specs.Machine.{State, Result, ask_store, pages_stored, pages_from, finish_change, apply}
use Rattle.machine.specs.Machine.{guard as digest_store}
use Rattle.machine.specs.Consistent.{Consistent}
use Rattle.guard_state.specs.declared.Guard.{Guard}
use Rattle.guard_state.specs.State.{numbers_of, state_in, state_of}
use Rattle.guard_state.specs.laws.LoadedLaws.{nodes-count, node-there}
use Rattle.refusals.specs.Numbers.{reason_number}
use Rattle.refusals.specs.declared.StopReason.{StopReason}
use Rattle.refusals.specs.laws.NumberLaws.{reason_positive}
use Rattle.outcomes.specs.declared.Outcome.{Outcome}
use Rattle.outcomes.specs.declared.Outcome.TheVariants.{Stopped}
use Rattle.outcomes.specs.Sent.{Sends}
use Rattle.outcomes.specs.laws.SentLaws.{stop_sends}
use Rattle.outcomes.specs.Answered.{taken, answered}
use Rattle.replies.specs.Judged.{status_reason, page_reason}
use Rattle.replies.specs.laws.JudgedLaws.{storing_reason, cutting_reason, right_not_full}
use Rattle.replies.specs.laws.TakenLaws.{taken-passes}
use Rattle.page_changes.specs.Asked.{Changing}
use Rattle.page_changes.specs.Fetched.{JudgedPage}
use Rattle.page_changes.specs.laws.SendingLaws.{fetching_fits, consistent_room}

-- behind its last page a change has its pages stored
pub pages_stored_lem : (c : Config) (s : State (digest_store c)) (k o : ℕ) (q : Change) (i : ℕ) → last q ≤ i
    → pages_from c (digest_store c) s k o q i ≡ pages_stored c (digest_store c) s k o q
unfolding pages_from
pages_stored_lem c s k o q i h = pick-false _ _ _ (le-ltb i (last q) h)

-- a page that was fetched, by the reason that was found
module _ (c : Config) (same : c.digest ≡ sha256) (s : State (digest_store c)) (r : List ℕ) (k o : ℕ) (q : Change)
    (i : ℕ)
    (waiting : s.skeleton.pending ≡ fetching k o q i) where
  abbrev kept : List ℕ
  kept = get_or (get_or s.contents k []) i []

  move : taken c s r ≡ pick (not (eqb (length r) PAGE_BYTES)) (halt 1) (fill_page k o q i r)
  unfolding taken reasons reply_checks map_reasons reply_action decide pick
  move = ap (λ (p : Pending). pick (tells_full c.width r p) (full_action p)
      (decide halt (reply_checks c.width s.skeleton.tables r p ++ map_reasons s.skeleton.maps r p)
      (reply_action c.width s.skeleton.tables r p))) waiting

  as_digest : equal (c.digest r) kept ≡ equal (sha256 r) kept
  as_digest = ap (λ (f : List ℕ → List ℕ). equal (f r) kept) same

  fetched_halts : (b : ℕ) → b ≡ page_reason kept r → 0 < b → answered c s r ≡ apply c (digest_store c) s (halt b)
  unfolding answered apply page_reason
  fetched_halts b e h = go (is (eqb (length r) PAGE_BYTES)) (is (equal (sha256 r) kept))
    where
      go : Is (eqb (length r) PAGE_BYTES) → Is (equal (sha256 r) kept) → answered c s r ≡ apply c (digest_store c) s
          (halt b)
      go (is_f x) y = ap (apply c (digest_store c) s) (move ∙ pick_true _ _ _ (ap not x))
          ∙ ap (λ (n : ℕ). apply c (digest_store c) s (halt n)) (sym (e ∙ pick-false _ _ _ x))
      go (is_t x) (is_f y) =
          ap (apply c (digest_store c) s) (move ∙ pick-false _ _ _ (ap not x)) ∙ pick-false _ _ _ (as_digest ∙ y)
          ∙ ap (λ (n : ℕ). apply c (digest_store c) s (halt n)) (sym (e ∙ pick_true _ _ _ x ∙ pick-false _ _ _ y))
      go (is_t x) (is_t y) = absurd (let z : b ≡ 0 = e ∙ pick_true _ _ _ x ∙ pick_true _ _ _ y in omega arith)

  pub fetched-stops : (b : StopReason) (m z : List ℕ) → reason_number b ≡ page_reason kept r → state_of c m ≡ s
      → Sends c (answered c s r) (Stopped b) m z z
  fetched-stops b m z e g =
      subst (λ (x : Result (digest_store c)). Sends c x (Stopped b) m z z)
      (sym (fetched_halts (reason_number b) e (reason_positive b)))
      (stop_sends c s (halt (reason_number b)) b m z refl g)

  pub fetched_goes : 0 ≡ page_reason kept r → answered c s r ≡ ask_store c (digest_store c) s k o q i r
  unfolding answered apply page_reason
  fetched_goes e = go (is (eqb (length r) PAGE_BYTES)) (is (equal (sha256 r) kept))
    where
      go : Is (eqb (length r) PAGE_BYTES) → Is (equal (sha256 r) kept) → answered c s r ≡ ask_store c (digest_store c) s k
          o q i r
      go (is_f x) y = absurd (let z : 0 ≡ 1 = e ∙ pick-false _ _ _ x in omega arith)
      go (is_t x) (is_f y) = absurd (let z : 0 ≡ 5 = e ∙ pick_true _ _ _ x ∙ pick-false _ _ _ y in omega arith)
      go (is_t x) (is_t y) = ap (apply c (digest_store c) s) (move ∙ pick-false _ _ _ (ap not x))
          ∙ pick_true _ _ _ (as_digest ∙ y)

-- a status that is right: of a page that was stored, of a cut; it is not -28
module _ (c : Config) (wide : c.width ≡ ID_BYTES) (s : State (digest_store c)) (r : List ℕ) (k o : ℕ) (q : Change) where
  pub stored_goes : (i : ℕ) → s.skeleton.pending ≡ storing k o q i → 0 ≡ status_reason r PAGE_BYTES
      → answered c s r ≡ pages_from c (digest_store c) s k o q (suc i)
  unfolding answered apply reply_action
  stored_goes i e h =
      ap (apply c (digest_store c) s) (taken-passes c wide s r (storing k o q i) e
      (right_not_full r PAGE_BYTES h (stores_more q)) (h
      ∙ sym (storing_reason s.skeleton.tables r k o q i)) refl)

  pub cut_goes : s.skeleton.pending ≡ cutting k o q → 0 ≡ status_reason r 0
      → answered c s r ≡ finish_change c (digest_store c) s k o q
  unfolding answered apply reply_action
  cut_goes e h = ap (apply c (digest_store c) s) (taken-passes c wide s r (cutting k o q) e
      (right_not_full r 0 h (cuts_more q)) (h
      ∙ sym (cutting_reason s.skeleton.tables r k o q)) refl)

-- a fetched page that was judged
module _ (c : Config) (m : List ℕ) (q : Change) (h : Consistent c (state_of c m))
    (k : Changing (numbers_of (mem_of m).head).call) where
  abbrev g : Guard
  g = numbers_of (mem_of m).head

  module _ (waiting : (state_of c m).skeleton.pending ≡ fetching g.node g.opened q g.page) (l : Guard)
      (loaded : l ≡ numbers_of (mem_of m).head) (b : ℕ) (r : List ℕ)
      (judged : JudgedPage m l b r) where
    -- there is a digest of it
    pub fetch_judged : b ≡ page_reason (get_or (get_or (state_of c m).contents g.node []) g.page []) r
    unfolding state_of state_in view_of pages_for
    fetch_judged =
        let f = fetching_fits c m q h k waiting in
        let n : g.node < g.nodes = omega (arith, f.page.change.opened.known, nodes-count c m) in
        let z : (node_at (mem_of m).nodes g.node).size ≡ (node_at (state_of c m).skeleton.tables.nodes
        g.node).size = ap (λ (x : Node). x.size) (node-there m c g.node n) in
        subst (λ (x : Guard). JudgedPage m x b r) loaded judged n (omega (arith, f.old, z)) (consistent_room c m q h k)

    pub judged-stops : c.digest ≡ sha256 → (e : StopReason) → reason_number e ≡ b → (z : List ℕ)
        → Sends c (answered c (state_of c m) r) (Stopped e) m z z
    judged-stops same e p z = fetched-stops c same (state_of c m) r g.node g.opened q g.page waiting e m z
        (p ∙ fetch_judged) refl

    pub judged-stores : c.digest ≡ sha256 → b ≡ 0 → (x : Outcome) (m' z z' : List ℕ)
        → Sends c (ask_store c (digest_store c) (state_of c m) g.node g.opened q g.page r) x m' z z'
        → Sends c (answered c (state_of c m) r) x m' z z'
    judged-stores same p x m' z z' s =
        subst (λ (y : Result (digest_store c)). Sends c y x m' z z')
        (sym (fetched_goes c same (state_of c m) r g.node g.opened q g.page waiting (sym p ∙ fetch_judged)))
        s
