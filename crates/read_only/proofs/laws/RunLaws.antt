-- What holds along every run of the read-only guard, whatever the host replies: nodes and contents stay but at a load,
-- no handle has the right to write, and nothing is pending that writes.
-- Assumes nothing.
use Rattle.std.specs.Prelude.{◌≡◌, Bool, true, false, ℕ, zero, suc, ◌+◌, ◌*◌, eqb, leb}
use Rattle.std.proofs.Math.Path.{refl, subst}
use Rattle.std.proofs.Common.{sym, ◌∙◌, true≢false, eqb-true}
use Rattle.std.proofs.lemmas.Bool.{false≢true}
use mathlib.Core.List.{List, [], ◌∷◌}
use Rattle.lists.specs.Pick.{pick_ind}
use Rattle.lists.specs.Equal.{Is, is_t, is_f, is}
use Rattle.lists.specs.All.{All, both, none, all_append}
use Rattle.lists.specs.Places.{all_without}
use Rattle.lists.specs.Checks.{decide_ind}
use Rattle.filesystem.specs.Tables.{PAGE_BYTES, OpenFile, Tables, open_at, set_cursor}
use Rattle.filesystem.specs.Image.{Version}
use Rattle.rules.specs.Calls.{Call, create, mkdir, open_as, close, seek, read, write, truncate, remove, rmdir, chmod}
use Rattle.rules.specs.Calls.{readdir, stat, map_memory, unmap, read_call, rename}
use Rattle.rules.specs.Requests.{asked, Pending, idle, creating, opening, closing, removing, changing, listing, stating}
use Rattle.rules.specs.Requests.{mapping, unmapping, reading, fetching, storing, cutting, renaming}
use Rattle.rules.specs.Skeleton.{Config, Event, call, reply, save, load}
use Rattle.rules.specs.Rules.{Move, refuse, halt, send, finish, add, delete, remap, read_page, begin, fill_page, stored}
use Rattle.rules.specs.Rules.{cut_done, keep_pages, give_up, saving, loading, read_action, call_action, reasons, reply_action}
use Rattle.rules.specs.Rules.{tells_full, call_or, event_checks, event_action, judge}
use Rattle.machine.specs.Machine.{Store, State, Result, content_at, read_on, apply, step, fresh}
use Rattle.read_only.specs.ReadOnly.{takes_call, takes, read_only_step, read_only_final}
use Rattle.read_only.proofs.laws.StepLaws.{as_guard, not_taken}

-- a call that takes_call waits
unfoldable pub reads : Pending → Bool
reads idle = true
reads (asked (creating p k m name)) = false
reads (asked (opening k rights)) = eqb rights 1
reads (asked (closing o)) = true
reads (asked (removing k)) = false
reads (asked (changing k m)) = false
reads (asked (listing k)) = true
reads (asked (stating k)) = true
reads (asked (mapping n)) = false
reads (asked (unmapping a)) = false
reads (asked (renaming k p name)) = false
reads (reading k o p n i) = true
reads (fetching k o q i) = false
reads (storing k o q i) = false
reads (cutting k o q) = false

abbrev pub ReadsOnly : OpenFile → Type 0
ReadsOnly o = o.rights ≡ 1

pub record OnlyReads {S : Store} (s : State S) : Type 0 where
  pub pending : reads s.skeleton.pending ≡ true
  pub handles : All ReadsOnly s.skeleton.tables.opens

cursor_reads : (o p : ℕ) {os : List OpenFile} → All ReadsOnly os → All ReadsOnly (set_cursor os o p)
unfolding set_cursor open_at
cursor_reads o p none = none
cursor_reads zero p (both h a) = both h a
cursor_reads (suc o) p (both h a) = both h (cursor_reads o p a)

-- A move that takes_call: nodes and pages stay.
abbrev Quiet : Tables → Move → Type 0
Quiet t (refuse n) = Unit {0}
Quiet t (halt n) = Unit {0}
Quiet t (send p q) = reads p ≡ true
Quiet t (finish u n b) = (u.nodes ≡ t.nodes) × All ReadsOnly u.opens
Quiet t (add n) = ⊥
Quiet t (delete k) = ⊥
Quiet t (remap x) = ⊥
Quiet t (read_page k o p n i r) = Unit {0}
Quiet t (begin k o q) = ⊥
Quiet t (fill_page k o q i r) = ⊥
Quiet t (stored k o q i) = ⊥
Quiet t (cut_done k o q) = ⊥
Quiet t (keep_pages k o q i) = ⊥
Quiet t give_up = ⊥
Quiet t saving = Unit {0}
Quiet t (loading i d) = ⊥

call-quiet : (t : Tables) (w : ℕ) (q : Call) → takes_call q ≡ true → All ReadsOnly t.opens
    → Quiet t (call_action t w q)
unfolding takes_call call_action read_action reads
call-quiet t w (create m p) h a = absurd (false≢true h)
call-quiet t w (mkdir m p) h a = absurd (false≢true h)
call-quiet t w (open_as r p) h a = h
call-quiet t w (close x) h a = refl
call-quiet t w (seek x n) h a = (refl, cursor_reads _ n a)
call-quiet t w (read x n) h a = pick_ind (Quiet t) _ (λ _. (refl, a)) (λ _. refl)
call-quiet t w (write x d) h a = absurd (false≢true h)
call-quiet t w (truncate x n) h a = absurd (false≢true h)
call-quiet t w (remove p) h a = absurd (false≢true h)
call-quiet t w (rmdir p) h a = absurd (false≢true h)
call-quiet t w (chmod m p) h a = absurd (false≢true h)
call-quiet t w (readdir p) h a = refl
call-quiet t w (stat p) h a = refl
call-quiet t w (map_memory n) h a = absurd (false≢true h)
call-quiet t w (unmap x) h a = absurd (false≢true h)
call-quiet t w (rename p q) h a = absurd (false≢true h)

reply_quiet : (w : ℕ) (t : Tables) (r : List ℕ) (p : Pending) → reads p ≡ true → All ReadsOnly t.opens
    → Quiet t (reply_action w t r p)
unfolding reads reply_action
reply_quiet w t r idle h a = tt
reply_quiet w t r (asked (creating p k m name)) h a = absurd (false≢true h)
reply_quiet w t r (asked (opening k rights)) h a = (refl, all_append a (both (eqb-true _ _ h) none))
reply_quiet w t r (asked (closing o)) h a = (refl, all_without o a)
reply_quiet w t r (asked (removing k)) h a = absurd (false≢true h)
reply_quiet w t r (asked (changing k m)) h a = absurd (false≢true h)
reply_quiet w t r (asked (listing k)) h a = (refl, a)
reply_quiet w t r (asked (stating k)) h a = (refl, a)
reply_quiet w t r (asked (mapping n)) h a = absurd (false≢true h)
reply_quiet w t r (asked (unmapping x)) h a = absurd (false≢true h)
reply_quiet w t r (asked (renaming k p name)) h a = absurd (false≢true h)
reply_quiet w t r (reading k o p n i) h a = tt
reply_quiet w t r (fetching k o q i) h a = absurd (false≢true h)
reply_quiet w t r (storing k o q i) h a = absurd (false≢true h)
reply_quiet w t r (cutting k o q) h a = absurd (false≢true h)

-- a full disk is told to calls that write alone
never_full : (w : ℕ) (r : List ℕ) (p : Pending) → reads p ≡ true → tells_full w r p ≡ false
unfolding reads
never_full w r idle h = refl
never_full w r (asked (creating p k m name)) h = absurd (false≢true h)
never_full w r (asked (opening k rights)) h = refl
never_full w r (asked (closing o)) h = refl
never_full w r (asked (removing k)) h = refl
never_full w r (asked (changing k m)) h = refl
never_full w r (asked (listing k)) h = refl
never_full w r (asked (stating k)) h = refl
never_full w r (asked (mapping n)) h = refl
never_full w r (asked (unmapping x)) h = refl
never_full w r (asked (renaming k p name)) h = refl
never_full w r (reading k o p n i) h = refl
never_full w r (fetching k o q i) h = refl
never_full w r (storing k o q i) h = absurd (false≢true h)
never_full w r (cutting k o q) h = absurd (false≢true h)

module _ (c : Config) (S : Store) where
  -- nodes and pages are the same
  pub record SameFiles (s t : State S) : Type 0 where
    pub nodes : t.skeleton.tables.nodes ≡ s.skeleton.tables.nodes
    pub contents : t.contents ≡ s.contents

  abbrev Left : State S → Result S → Type 0
  Left s r = OnlyReads r.state × SameFiles s r.state

  same : (s : State S) → SameFiles s s
  same s = record { nodes = refl; contents = refl }

  move-reads : (s : State S) → OnlyReads s → (m : Move) → Quiet s.skeleton.tables m → Left s (apply c S s m)
  unfolding apply read_on reads
  move-reads s l (refuse n) q = (l, same s)
  move-reads s l (halt n) q =
      (record { pending = refl; handles = l.handles }, record { nodes = refl; contents = refl })
  move-reads s l (send p r) q = (record { pending = q; handles = l.handles }, record { nodes = refl; contents = refl })
  move-reads s l (finish t n b) (e, a) = (record { pending = refl; handles = a }, record { nodes = e; contents = refl })
  move-reads s l (add n) q = absurd q
  move-reads s l (delete k) q = absurd q
  move-reads s l (remap x) q = absurd q
  move-reads s l (read_page k o p n i r) q =
      pick_ind (Left s) (S.is_page (content_at c S s k) i r)
      (λ _. pick_ind (Left s) (leb (p + n) (i * PAGE_BYTES + PAGE_BYTES))
      (λ _. (
        record {
          pending = refl;
          handles = cursor_reads o (p + n)
              l.handles;
        },
        record { nodes = refl; contents = refl },
      ))
      (λ _. (record { pending = refl; handles = l.handles }, record { nodes = refl; contents = refl })))
      (λ _. (record { pending = refl; handles = l.handles }, record { nodes = refl; contents = refl }))
  move-reads s l (begin k o q) x = absurd x
  move-reads s l (fill_page k o q i r) x = absurd x
  move-reads s l (stored k o q i) x = absurd x
  move-reads s l (cut_done k o q) x = absurd x
  move-reads s l (keep_pages k o q i) x = absurd x
  move-reads s l give_up x = absurd x
  move-reads s l saving q = (record { pending = refl; handles = l.handles }, record { nodes = refl; contents = refl })
  move-reads s l (loading i d) q = absurd q

  unfoldable pub is_load : Event → Bool
  is_load (call s a q) = false
  is_load (reply r a q) = false
  is_load (save n) = false
  is_load (load v i d) = true

  judge-quiet : (s : State S) → OnlyReads s → (e : Event) → takes c e ≡ true → is_load e ≡ false
      → Quiet s.skeleton.tables (judge c s.skeleton e)
  unfolding judge event_action takes is_load
  judge-quiet s l (call b a q) h x =
      decide_ind refuse (Quiet s.skeleton.tables) (event_checks c s.skeleton (call b a q)) _ (λ _ _. tt)
      (λ _. call-quiet s.skeleton.tables c.width (call_or (read_call c.width b)) h l.handles)
  judge-quiet s l (reply r a q) h x =
      decide_ind refuse (Quiet s.skeleton.tables) (event_checks c s.skeleton (reply r a q)) _ (λ _ _. tt)
      (λ _. pick_ind (Quiet s.skeleton.tables) (tells_full c.width r s.skeleton.pending)
      (λ f. absurd (true≢false (sym f ∙ never_full c.width r s.skeleton.pending l.pending)))
      (λ _. decide_ind halt (Quiet s.skeleton.tables) (reasons c.width s.skeleton r) _ (λ _ _. tt)
      (λ _. reply_quiet c.width s.skeleton.tables r s.skeleton.pending l.pending l.handles)))
  judge-quiet s l (save n) h x = decide_ind refuse (Quiet s.skeleton.tables)
      (event_checks c s.skeleton (save n)) _ (λ _ _. tt) (λ _. tt)
  judge-quiet s l (load v i d) h x = absurd (true≢false x)

  -- Each event leaves one that takes_call, and all but a load leave the nodes and the pages.
  pub read_only_keeps : (s : State S) → OnlyReads s → (e : Event) → is_load e ≡ false → Left s (read_only_step c S s e)
  read_only_keeps s l e x = go (is (takes c e))
    where
      go : Is (takes c e) → Left s (read_only_step c S s e)
      go (is_t h) = subst (Left s) (sym (as_guard c S s e h))
          (unfold step in move-reads s l (judge c s.skeleton e) (judge-quiet s l e h x))
      go (is_f h) = subst (λ t. OnlyReads t × SameFiles s t) (sym (not_taken c S s e h)) (l, same s)

  load-reads : (s : State S) → OnlyReads s → (v : Version) (i d : List ℕ) → OnlyReads (step c S s (load v i d)).state
  unfolding step judge event_action apply reads
  load-reads s l v i d =
      decide_ind refuse (λ m. OnlyReads (apply c S s m).state) (event_checks c s.skeleton (load v i d)) _ (λ _ _. l)
      (λ _. record { pending = refl; handles = l.handles })

  pub read_only-reads : (s : State S) → OnlyReads s → (e : Event) → OnlyReads (read_only_step c S s e).state
  read_only-reads s l (call b a q) = (read_only_keeps s l (call b a q) (unfold is_load in refl)).0
  read_only-reads s l (reply r a q) = (read_only_keeps s l (reply r a q) (unfold is_load in refl)).0
  read_only-reads s l (save n) = (read_only_keeps s l (save n) (unfold is_load in refl)).0
  read_only-reads s l (load v i d) = subst (λ (r : Result S). OnlyReads r.state)
      (sym (as_guard c S s (load v i d) (unfold takes in refl))) (load-reads s l v i d)

  -- so no handle ever has the right to write, whatever the host replies
  pub always_reads : (s : State S) → OnlyReads s → (es : List Event) → OnlyReads (read_only_final c S s es)
  unfolding read_only_final
  always_reads s l [] = l
  always_reads s l (e ∷ es) = always_reads (read_only_step c S s e).state (read_only-reads s l e) es

  pub fresh-reads : OnlyReads (fresh c S)
  unfolding reads
  fresh-reads = record { pending = refl; handles = none }
