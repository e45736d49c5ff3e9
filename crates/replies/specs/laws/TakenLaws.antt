-- What a reply comes to, by the reason that was found: a stop, or what the rules make of it.
-- Assumes nothing.
use Rattle.std.specs.Prelude.{◌≡◌, Bool, true, false, not, ℕ, ◌+◌, ◌*◌, ◌<◌, ◌≤◌, ltb, eqb, length}
use Rattle.std.proofs.Math.Path.{refl, ap, subst}
use Rattle.std.proofs.Common.{sym, ◌∙◌, true≢false, arith}
use mathlib.Core.List.{List, [], ◌∷◌, ◌++◌}
use borrow.Author.Tests.{ltb-true, eqb-true}
use Rattle.std.proofs.Math.ListN.{take}
use Rattle.lists.specs.Pick.{pick, pick_true, pick-false}
use Rattle.lists.specs.All.{All, both, none, Bytes}
use Rattle.lists.specs.PartLaws.{take_overwrite}
use Rattle.lists.specs.Search.{without}
use Rattle.lists.specs.Checks.{Check, Passed, decide, decide-append}
use Rattle.filesystem.specs.Tables.{ID_BYTES, Node, Tables, fresh_tables}
use Rattle.rules.specs.Requests.{asked, Pending, idle, creating, opening, closing, removing, changing, listing, stating}
use Rattle.rules.specs.Requests.{reading, fetching, storing, cutting, mapping, unmapping, renaming}
use Rattle.rules.specs.Skeleton.{Config, done, answer_bytes, answer_length, at_front}
use Rattle.rules.specs.Rules.{Move, refuse, halt, send, finish, add, delete, remap, read_page, begin, fill_page, stored}
use Rattle.rules.specs.Rules.{cut_done, keep_pages, give_up, saving, loading, length_check, reply_checks, reply_action}
use Rattle.rules.specs.Rules.{map_reasons, reasons, tells_full, full_action}
use Rattle.filesystem.specs.MemoryMaps.{Map}
use Rattle.rules.specs.Valid.{ValidNodes}
use Rattle.rules.proofs.ReplyLaws.{listing_right}
use Rattle.rules.proofs.Lengths.{listing_length}
use Rattle.machine.specs.Machine.{State, Result, gave_up, apply, guard as digest_store}
use Rattle.guard_state.specs.State.{state_of}
use Rattle.guard_state.specs.Waits.{ends}
use Rattle.refusals.specs.Numbers.{reason_number}
use Rattle.refusals.specs.declared.StopReason.{StopReason}
use Rattle.refusals.specs.laws.NumberLaws.{reason_positive}
use Rattle.outcomes.specs.declared.Outcome.{Outcome}
use Rattle.outcomes.specs.declared.Outcome.TheVariants.{Done, Stopped}
use Rattle.outcomes.specs.Values.{length_of, bytes_in, answer_in}
use Rattle.outcomes.specs.Sent.{settled, Sends, Fills}
use Rattle.outcomes.specs.laws.SentLaws.{sends_leaves, stop_sends, done_sends, finish_sends}
use Rattle.replies.specs.Judged.{reason_for}
use Rattle.outcomes.specs.Answered.{taken, answered}

-- reasons are not 0, so 0 says that none holds
abbrev pub Positive : Check → Type 0
Positive ch = ltb 0 ch.0 ≡ true

module _ (x : Move) where
  pub stopped_by : (cs : List Check) → All Positive cs → (b : ℕ) → b ≡ decide (λ n. n) cs 0 → 0 < b
      → decide halt cs x ≡ halt b
  unfolding decide pick
  stopped_by [] a b e h = absurd (omega arith)
  stopped_by ((n, true) ∷ cs) a b e h = ap halt (sym e)
  stopped_by ((n, false) ∷ cs) (both p a) b e h = stopped_by cs a b e h

  pub passes : (cs : List Check) → All Positive cs → 0 ≡ decide (λ n. n) cs 0 → decide halt cs x ≡ x
  unfolding decide pick
  passes [] a e = refl
  passes ((n, true) ∷ cs) (both p a) e = absurd (omega (arith, ltb-true 0 n p))
  passes ((n, false) ∷ cs) (both p a) e = passes cs a e

positive : (t : Tables) (r : List ℕ) (p : Pending) → All Positive (reply_checks ID_BYTES t r p)
unfolding reply_checks
positive t r idle = none
positive t r (asked (creating p k m name)) = both refl (both refl none)
positive t r (asked (opening k rights)) = both refl (both refl none)
positive t r (asked (closing o)) = both refl (both refl none)
positive t r (asked (removing k)) = both refl (both refl none)
positive t r (asked (changing k m)) = both refl (both refl none)
positive t r (asked (listing k)) = both refl none
positive t r (asked (stating k)) = both refl (both refl none)
positive t r (asked (mapping n)) = both refl none
positive t r (asked (unmapping a)) = both refl (both refl none)
positive t r (asked (renaming k p name)) = both refl (both refl none)
positive t r (reading k o p n i) = both refl none
positive t r (fetching k o q i) = both refl none
positive t r (storing k o q i) = both refl (both refl none)
positive t r (cutting k o q) = both refl (both refl none)

-- a reply that changes no map has no reason of a map
abbrev pub is_remap : Move → Bool
is_remap (refuse n) = false
is_remap (halt n) = false
is_remap (send p q) = false
is_remap (finish t n b) = false
is_remap (add n) = false
is_remap (delete k) = false
is_remap (remap x) = true
is_remap (read_page k o p n i r) = false
is_remap (begin k o q) = false
is_remap (fill_page k o q i r) = false
is_remap (stored k o q i) = false
is_remap (cut_done k o q) = false
is_remap (keep_pages k o q i) = false
is_remap give_up = false
is_remap saving = false
is_remap (loading i d) = false

no-map_reason : (w : ℕ) (t : Tables) (ms : List Map) (r : List ℕ) (p : Pending) → is_remap (reply_action w t r p) ≡ false
    → map_reasons ms r p ≡ []
unfolding map_reasons reply_action
no-map_reason w t ms r idle h = refl
no-map_reason w t ms r (asked (creating p k m name)) h = refl
no-map_reason w t ms r (asked (opening k rights)) h = refl
no-map_reason w t ms r (asked (closing o)) h = refl
no-map_reason w t ms r (asked (removing k)) h = refl
no-map_reason w t ms r (asked (changing k m)) h = refl
no-map_reason w t ms r (asked (listing k)) h = refl
no-map_reason w t ms r (asked (stating k)) h = refl
no-map_reason w t ms r (asked (mapping n)) h = absurd (true≢false h)
no-map_reason w t ms r (asked (unmapping a)) h = refl
no-map_reason w t ms r (asked (renaming k p name)) h = refl
no-map_reason w t ms r (reading k o p n i) h = refl
no-map_reason w t ms r (fetching k o q i) h = refl
no-map_reason w t ms r (storing k o q i) h = refl
no-map_reason w t ms r (cutting k o q) h = refl

-- the move, from the pending call and the reason that was found
module _ (c : Config) (wide : c.width ≡ ID_BYTES) (s : State (digest_store c)) (r : List ℕ) (p : Pending)
    (waiting : s.skeleton.pending ≡ p) where
  told : tells_full c.width r s.skeleton.pending ≡ tells_full ID_BYTES r p
  told = λ i. tells_full (wide i) r (waiting i)

  -- the disk is full
  pub taken-full : tells_full ID_BYTES r p ≡ true → taken c s r ≡ full_action p
  unfolding taken
  taken-full f = pick_true _ _ _ (told ∙ f) ∙ ap full_action waiting

  -- behind the reasons that the tables give, those of a map
  pub at_width : tells_full ID_BYTES r p ≡ false
      → taken c s r ≡ decide halt (reply_checks ID_BYTES s.skeleton.tables r p)
      (decide halt (map_reasons s.skeleton.maps r p) (reply_action ID_BYTES s.skeleton.tables r p))
  unfolding taken reasons
  at_width f =
      pick-false _ _ _ (told ∙ f)
      ∙ decide-append halt (reply_checks c.width s.skeleton.tables r s.skeleton.pending) _ _
      ∙ ap (λ (x : ℕ). decide halt (reply_checks x s.skeleton.tables r s.skeleton.pending)
      (decide halt (map_reasons s.skeleton.maps r s.skeleton.pending) (reply_action x s.skeleton.tables r s.skeleton.pending))) wide
      ∙ ap (λ (x : Pending). decide halt (reply_checks ID_BYTES s.skeleton.tables r x)
      (decide halt (map_reasons s.skeleton.maps r x) (reply_action ID_BYTES s.skeleton.tables r x))) waiting

  pub taken-stops : tells_full ID_BYTES r p ≡ false → (b : ℕ) → b ≡ reason_for s.skeleton.tables r p → 0 < b
      → taken c s r ≡ halt b
  unfolding reason_for
  taken-stops f b e h = at_width f ∙ stopped_by _ (reply_checks ID_BYTES s.skeleton.tables r p)
      (positive s.skeleton.tables r p) b e h

  pub taken_on : tells_full ID_BYTES r p ≡ false → 0 ≡ reason_for s.skeleton.tables r p
      → taken c s r ≡ decide halt (map_reasons s.skeleton.maps r p) (reply_action ID_BYTES s.skeleton.tables r p)
  unfolding reason_for
  taken_on f e = at_width f ∙ passes _ (reply_checks ID_BYTES s.skeleton.tables r p)
      (positive s.skeleton.tables r p) e

  pub taken-passes : tells_full ID_BYTES r p ≡ false → 0 ≡ reason_for s.skeleton.tables r p
      → is_remap (reply_action ID_BYTES s.skeleton.tables r p) ≡ false
      → taken c s r ≡ reply_action ID_BYTES s.skeleton.tables r p
  unfolding decide
  taken-passes f e h =
      taken_on f e ∙ ap (λ (cs : List Check). decide halt cs (reply_action ID_BYTES s.skeleton.tables r p))
      (no-map_reason ID_BYTES s.skeleton.tables s.skeleton.maps r p h)

  -- the call has finished nothing
  pub answer-gives_up : tells_full ID_BYTES r p ≡ true → full_action p ≡ give_up → (o : Outcome) (m q q' : List ℕ)
      → Sends c (gave_up c (digest_store c) s) o m q q' → Sends c (answered c s r) o m q q'
  unfolding answered apply
  answer-gives_up f g o m q q' = subst (λ (x : Result (digest_store c)). Sends c x o m q q')
      (sym (ap (apply c (digest_store c) s) (taken-full f ∙ g)))

-- a reply without a reason has its length, or at most a listing's
passed_all : (cs : List Check) → All Positive cs → 0 ≡ decide (λ n. n) cs 0 → Passed cs
unfolding decide pick
passed_all [] a e = none
passed_all ((n, true) ∷ cs) (both p a) e = absurd (omega (arith, ltb-true 0 n p))
passed_all ((n, false) ∷ cs) (both p a) e = both refl (passed_all cs a e)

long_enough : (r : List ℕ) (n : ℕ) (cs : List Check) → Passed (length_check ID_BYTES fresh_tables r n ∷ cs) → length r ≡ n
long_enough r n cs (both e _) = eqb-true (length r) n (yes (eqb (length r) n) e)
  where
    yes : (b : Bool) → not b ≡ false → b ≡ true
    yes true h = refl
    yes false h = absurd (true≢false h)

module _ (t : Tables) (r : List ℕ) where
  pub opening_long : (k rights : ℕ) → 0 ≡ reason_for t r (asked (opening k rights)) → length r ≡ 4
  unfolding reason_for reply_checks
  opening_long k rights e = long_enough r 4 _ (passed_all _ (positive t r (asked (opening k rights))) e)

  pub creating_long : (p k m : ℕ) (name : List ℕ) → 0 ≡ reason_for t r (asked (creating p k m name))
      → length r ≡ ID_BYTES
  unfolding reason_for reply_checks
  creating_long p k m name e = long_enough r ID_BYTES _ (passed_all _ (positive t r (asked (creating p k m name))) e)

  pub stating_long : (k : ℕ) → 0 ≡ reason_for t r (asked (stating k)) → length r ≡ ID_BYTES + 6
  unfolding reason_for reply_checks
  stating_long k e = long_enough r (ID_BYTES + 6) _ (passed_all _ (positive t r (asked (stating k))) e)

  pub listing_long : (k : ℕ) → ValidNodes ID_BYTES t.nodes → k < length t.nodes → Bytes r
      → 0 ≡ reason_for t r (asked (listing k))
      → length r ≤ 255 * (ID_BYTES + 34)
  unfolding reason_for
  listing_long k v h b e = listing_length ID_BYTES t r k v h
      (listing_right ID_BYTES t r k b (passed_all _ (positive t r (asked (listing k))) e))

-- the answer buffer holds the longest listing
pub answer_most : (c : Config) → c.width ≡ ID_BYTES → answer_length c ≡ 255 * (ID_BYTES + 34)
unfolding answer_length
answer_most c e = ap (λ (w : ℕ). 255 * (w + 34)) e

-- A reply to the pending call p: it stops the guard, or the call is done.
module _ (c : Config) (wide : c.width ≡ ID_BYTES) (s : State (digest_store c)) (r : List ℕ) (p : Pending)
    (waiting : s.skeleton.pending ≡ p) (full : tells_full ID_BYTES r p ≡ false) where
  abbrev t : Tables
  t = s.skeleton.tables

  pub answer-stops : (b : StopReason) (x q : List ℕ) → reason_number b ≡ reason_for t r p → state_of c x ≡ s
      → Sends c (answered c s r) (Stopped b) x q q
  unfolding answered
  answer-stops b x q e g =
      stop_sends c s _ b x q (taken-stops c wide s r p waiting full (reason_number b) e (reason_positive b)) g

  pub answer_finishes : (u : Tables) (n : ℕ) (x q : List ℕ) → 0 ≡ reason_for t r p
      → reply_action ID_BYTES t r p ≡ finish u n []
      → state_of c x ≡ ends c s u s.contents
      → Sends c (answered c s r) (Done n 0) x q q
  unfolding answered
  answer_finishes u n x q e f g = finish_sends c s _ u n x q
      (taken-passes c wide s r p waiting full e (ap is_remap f) ∙ f) g

  pub answer_deletes : (k : ℕ) (x q : List ℕ) → 0 ≡ reason_for t r p → reply_action ID_BYTES t r p ≡ delete k
      → state_of c x ≡ ends c s (record { nodes = without k t.nodes; opens = t.opens }) (without k s.contents)
      → Sends c (answered c s r) (Done 0 0) x q q
  unfolding answered apply
  answer_deletes k x q e f g = done_sends c s (taken c s r) (record { nodes = without k t.nodes; opens = t.opens })
      (without k s.contents) 0 x q (ap (apply c (digest_store c) s)
      (taken-passes c wide s r p waiting full e (ap is_remap f) ∙ f)) g

  pub answer_adds : (n : Node) (x q : List ℕ) → 0 ≡ reason_for t r p → reply_action ID_BYTES t r p ≡ add n
      → state_of c x ≡ ends c s (record { nodes = t.nodes ++ (n ∷ []); opens = t.opens }) (s.contents ++ ([] ∷ []))
      → Sends c (answered c s r) (Done n.id 0) x q q
  unfolding answered apply
  answer_adds n x q e f g =
      done_sends c s (taken c s r) (record { nodes = t.nodes ++ (n ∷ []); opens = t.opens }) (s.contents
      ++ ([] ∷ [])) n.id x q
      (ap (apply c (digest_store c) s)
      (taken-passes c wide s r p waiting full e (ap is_remap f) ∙ f)) g

  -- where the answer buffer is lent: a stop leaves it, and a call that is done puts its bytes at the front
  pub stop_fills : (b : StopReason) (x a : List ℕ) → reason_number b ≡ reason_for t r p → state_of c x ≡ s
      → Fills c (answered c s r) (Stopped b) x a a
  stop_fills b x a e g =
      let z : (q : List ℕ) → Sends c (answered c s r) (Stopped b) x q q = λ q. answer-stops b x q e g in
      record {
        state = (z []).state;
        answer = λ q. (z q).answer a;
        count = (z []).count;
        filled = (sends_leaves c (answered c s r) (Stopped b) x [] [] (z []) a).filled;
      }

  pub answer_fills : (u : Tables) (n l : ℕ) (y x a a' : List ℕ) → 0 ≡ reason_for t r p
      → reply_action ID_BYTES t r p ≡ finish u n y
      → state_of c x ≡ ends c s u s.contents
      → a' ≡ at_front y a → l ≡ length y → length y ≤ length a → Fills c (answered c s r) (Done n l) x a a'
  unfolding answered apply answer_in length_of bytes_in settled answer_bytes ends
  answer_fills u n l y x a a' e f g w h m =
      let z : taken c s r ≡ finish u n y = taken-passes c wide s r p waiting full e (ap is_remap f) ∙ f in
      record {
        state = g ∙ ap (λ (d : Move). (apply c (digest_store c) s d).state) (sym z);
        answer = λ q.
            ap (done n) (ap (λ (j : ℕ). take j a') h ∙ ap (take (length y)) w
            ∙ take_overwrite a 0 y (length y) (omega arith) (omega arith))
            ∙ ap (λ (d : Move). (apply c (digest_store c) s d).outcome.answer) (sym z);
        count = h ∙ ap (λ (d : Move). bytes_in (apply c (digest_store c) s d).outcome.answer) (sym z);
        filled = w ∙ ap (λ (d : Move). at_front (answer_bytes (apply c (digest_store c) s d).outcome.answer) a) (sym z);
      }
