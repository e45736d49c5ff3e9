-- What a call's bytes were read as is what the machine makes of them; and what a consistent state has for every call.
-- Assumes nothing.
use Rattle.std.specs.Prelude.{◌≡◌, ℕ, ◌-◌, ◌<◌, ◌≤◌, eqb, length, take, drop, None}
use Rattle.std.proofs.Math.Path.{refl, ap, sym, subst}
use Rattle.std.proofs.Common.{◌∙◌, arith, length-drop}
use mathlib.Core.List.{List, [], ◌++◌}
use Rattle.std.proofs.Math.Option.{some, Option, none}
use Rattle.filesystem.specs.Tables.{ID_BYTES}
use Rattle.filesystem.specs.Sound.{to_sound}
use Rattle.filesystem.specs.MemoryMaps.{Map}
use Rattle.rules.specs.Calls.{Call, open_as, remove, rmdir, chmod, readdir, stat, write, map_memory, unmap, read_call}
use Rattle.rules.specs.Calls.{rename, by_path}
use Rattle.rules.specs.Skeleton.{Config}
use Rattle.rules.specs.Rules.{refuse, call_checks, map_checks, call_action, call_or, is_none}
use Rattle.machine.specs.Machine.{State, Result, guard as digest_store, apply}
use Rattle.machine.specs.Consistent.{Consistent}
use Rattle.call_reader.specs.declared.ParsedCall.{ParsedCall}
use Rattle.call_reader.specs.declared.ParsedCall.TheVariants.{ByPath, Write, Rename}
use Rattle.call_reader.specs.laws.RestLaws.{rest}
use Rattle.call_reader.specs.Meaning.{made_by, meant, meant_of}
use Rattle.path_calls.specs.Begun.{begun}
use Rattle.renames.specs.Judged.{judged_both}
use Rattle.renames.specs.Begun.{rename_begun}
use Rattle.guard_state.specs.State.{state_of}
use Rattle.outcomes.specs.declared.Outcome.{Outcome}
use Rattle.refusals.specs.declared.Refusal.TheVariants.{Invalid}
use Rattle.outcomes.specs.declared.Outcome.TheVariants.{Refused}
use Rattle.outcomes.specs.Sent.{Sends}
use Rattle.outcomes.specs.laws.SentLaws.{refusal_sends}
use Rattle.outcomes.specs.Started.{started_by, map_started}
use Rattle.call_dispatch.specs.Called.{called, called_with}
use Rattle.lists.specs.Pick.{pick, pick_ind}
use Rattle.lists.specs.Form.{bind}
use Rattle.lists.specs.Checks.{Check, decide, decide-append}
use Rattle.filesystem.specs.Paths.{Path, read_path}
use Rattle.path_calls.specs.Judged.{judged}

-- what the bytes were read as, by its form
module _ (c : Config) (s : State (digest_store c)) where
  pub called_none : called c s none ≡ apply c (digest_store c) s (refuse 22)
  unfolding called is_none decide pick
  called_none = refl

  -- a call on files asks nothing of the maps
  abbrev OnFiles : Call → Type 0
  OnFiles q = map_checks s.skeleton.maps q ≡ []

  file-move : (q : Call) → OnFiles q
      → decide refuse (call_checks s.skeleton.tables q ++ map_checks s.skeleton.maps q) (call_action s.skeleton.tables c.width q)
      ≡ decide refuse (call_checks s.skeleton.tables q) (call_action s.skeleton.tables c.width q)
  unfolding decide
  file-move q f =
      decide-append refuse (call_checks s.skeleton.tables q) _ _
      ∙ ap (λ (cs : List Check). decide refuse (call_checks s.skeleton.tables q)
      (decide refuse cs (call_action s.skeleton.tables c.width q))) f

  pub called_some : (q : Call) → OnFiles q → called c s (some q) ≡ started_by c s q
  unfolding called is_none call_or decide pick started_by
  called_some q f = ap (apply c (digest_store c) s) (file-move q f)

  -- and one on maps nothing of the files
  pub called-map : (n : ℕ) → called c s (some (map_memory n)) ≡ map_started c s (map_memory n)
  unfolding called is_none call_or call_checks decide pick map_started
  called-map n = refl

  pub called-unmap : (a : ℕ) → called c s (some (unmap a)) ≡ map_started c s (unmap a)
  unfolding called is_none call_or call_checks decide pick map_started
  called-unmap a = refl

  pub called_path : (make : Path → Call) → ((p : Path) → OnFiles (make p)) → (path : List ℕ)
      → called c s (by_path make path) ≡ begun c s path make
  unfolding by_path begun judged bind called is_none call_or decide pick
  called_path make f path = go (read_path path)
    where
      go : (p : Option Path) → called c s (bind p (λ x. some (make x)))
          ≡ apply c (digest_store c) s
          (elim p [
            | none ↦ refuse 22
            | some x ↦ decide refuse (call_checks s.skeleton.tables (make x))
                (call_action s.skeleton.tables c.width (make x))
          ])
      go none = refl
      go (some x) = ap (apply c (digest_store c) s) (file-move (make x) (f x))

  pub called-rename : (first second : List ℕ)
      → called c s (bind (read_path first) (λ p. by_path (rename p) second)) ≡ rename_begun c s first second
  unfolding rename_begun judged_both begun
  called-rename first second = go (read_path first)
    where
      go : (o : Option Path) → called c s (bind o (λ p. by_path (rename p) second))
          ≡ apply c (digest_store c) s
          (elim o [
            | none ↦ refuse 22
            | some p ↦ judged refuse (λ q. call_checks s.skeleton.tables (rename p q))
                (λ q. call_action s.skeleton.tables c.width (rename p q)) second
          ])
      go none = unfold bind in called_none
      go (some p) = unfold bind in called_path (rename p) (λ q. unfold map_checks in refl) second

-- no call by path asks anything of the maps
made_on_files : (ms : List Map) (k n : ℕ) (p : Path) → map_checks ms (made_by k n p) ≡ []
unfolding made_by map_checks
made_on_files ms k n p =
    let F : Call → Type 0 = λ q. map_checks ms q ≡ [] in
    pick_ind F (eqb k 1) (λ _. refl) (λ _.
    pick_ind F (eqb k 2) (λ _. refl) (λ _.
    pick_ind F (eqb k 3) (λ _. refl) (λ _.
    pick_ind F (eqb k 9) (λ _. refl) (λ _.
    pick_ind F (eqb k 10) (λ _. refl) (λ _.
    pick_ind F (eqb k 11) (λ _. refl) (λ _.
    pick_ind F (eqb k 12) (λ _. refl) (λ _. refl)))))))

pub rest-length : (b : List ℕ) (start n : ℕ) → length b - start ≤ n → length (take (length b - start) (drop start b)) ≤
    n
rest-length b start n h = subst (λ (l : List ℕ). length l ≤ n) (sym (rest b start))
    (omega (arith, length-drop start b, h))

module _ (c : Config) (wide : c.width ≡ ID_BYTES) (s : State (digest_store c)) (b : List ℕ) (p : ParsedCall)
    (known : meant p b ≡ read_call ID_BYTES b) where
  read_as_lem : called_with c s b ≡ called c s (meant p b)
  unfolding called_with
  read_as_lem = ap (λ (w : ℕ). called c s (read_call w b)) wide ∙ ap (called c s) (sym known)

  pub call_as : (q : Call) → map_checks s.skeleton.maps q ≡ [] → meant p b ≡ some q → (r : Outcome) (m x x' : List ℕ) → Sends c (started_by c s q) r m x x'
      → Sends c (called_with c s b) r m x x'
  call_as q f e r m x x' = subst (λ (y : Result (digest_store c)). Sends c y r m x x') (sym (read_as_lem ∙ ap (called c s) e
      ∙ called_some c s q f))

  pub map_as : (n : ℕ) → meant p b ≡ some (map_memory n) → (r : Outcome) (m x x' : List ℕ)
      → Sends c (map_started c s (map_memory n)) r m x x' → Sends c (called_with c s b) r m x x'
  map_as n e r m x x' = subst (λ (y : Result (digest_store c)). Sends c y r m x x') (sym (read_as_lem ∙ ap (called c s) e
      ∙ called-map c s n))

  pub unmap_as : (a : ℕ) → meant p b ≡ some (unmap a) → (r : Outcome) (m x x' : List ℕ)
      → Sends c (map_started c s (unmap a)) r m x x' → Sends c (called_with c s b) r m x x'
  unmap_as a e r m x x' = subst (λ (y : Result (digest_store c)). Sends c y r m x x') (sym (read_as_lem ∙ ap (called c s) e
      ∙ called-unmap c s a))

  pub path_as : (k n start : ℕ) → p ≡ ByPath k n start → (r : Outcome) (m x x' : List ℕ)
      → Sends c (begun c s (take (length b - start) (drop start b)) (made_by k n)) r m x x'
      → Sends c (called_with c s b) r m x x'
  unfolding meant
  path_as k n start e r m x x' =
      subst (λ (y : Result (digest_store c)). Sends c y r m x x')
      (ap (λ (l : List ℕ). begun c s l (made_by k n)) (rest b start)
      ∙ sym (read_as_lem ∙ ap (λ (z : ParsedCall). called c s (meant z b)) e ∙ called_path c s (made_by k n)
      (made_on_files s.skeleton.maps k n) (drop start b)))

  pub write_as : (h start : ℕ) → p ≡ Write h start → (r : Outcome) (m x x' : List ℕ)
      → Sends c (started_by c s (write h (take (length b - start) (drop start b)))) r m x x'
      → Sends c (called_with c s b) r m x x'
  unfolding meant map_checks
  write_as h start e r m x x' f =
      call_as (write h (drop start b)) refl (ap (λ (z : ParsedCall). meant z b) e) r m x x'
      (subst (λ (l : List ℕ). Sends c (started_by c s (write h l)) r m x x') (rest b start) f)

  pub rename_as : (k : ℕ) → p ≡ Rename k → (r : Outcome) (m x x' : List ℕ)
      → Sends c (rename_begun c s (take (k - 2) (drop 2 b)) (take (length b - k) (drop k b))) r m x x'
      → Sends c (called_with c s b) r m x x'
  unfolding meant
  rename_as k e r m x x' =
      subst (λ (y : Result (digest_store c)). Sends c y r m x x')
      (ap (rename_begun c s (take (k - 2) (drop 2 b))) (rest b k)
      ∙ sym (read_as_lem ∙ ap (λ (z : ParsedCall). called c s (meant z b)) e
      ∙ called-rename c s (take (k - 2) (drop 2 b)) (drop k b)))

-- no call
pub none_as : (c : Config) → c.width ≡ ID_BYTES → (s : State (digest_store c)) (b : List ℕ)
    → meant_of None b ≡ read_call ID_BYTES b → (m x : List ℕ) → state_of c m ≡ s
    → Sends c (called_with c s b) (Refused Invalid) m x x
unfolding meant_of called_with
none_as c wide s b known m x g =
    subst (λ (y : Result (digest_store c)). Sends c y (Refused Invalid) m x x)
    (sym (ap (λ (w : ℕ). called c s (read_call w b)) wide ∙ ap (called c s) (sym known) ∙ called_none c s))
    (refusal_sends c s (refuse 22) Invalid m x refl g)

-- there is a root
pub some_node : (c : Config) (s : State (digest_store c)) → Consistent c s → 0 < length s.skeleton.tables.nodes
some_node c s h = (to_sound c.width s.skeleton.tables.nodes
    h.holds.valid.tables.nodes_valid.sound).has-root

-- the call that a kind makes of its number and its path
module _ (q : Config) (s : State (digest_store q)) (path : List ℕ) (r : Outcome) (m x x' : List ℕ) (n : ℕ) where
  abbrev Made : (Path → Call) → Type 0
  Made make = Sends q (begun q s path make) r m x x'

  module _ {k : ℕ} where
    pub open_made : k ≡ 3 → Made (open_as n) → Made (made_by k n)
    unfolding made_by pick
    open_made e = subst (λ (j : ℕ). Made (made_by j n)) (sym e)

    pub remove_made : k ≡ 9 → Made remove → Made (made_by k n)
    unfolding made_by pick
    remove_made e = subst (λ (j : ℕ). Made (made_by j n)) (sym e)

    pub rmdir_made : k ≡ 10 → Made rmdir → Made (made_by k n)
    unfolding made_by pick
    rmdir_made e = subst (λ (j : ℕ). Made (made_by j n)) (sym e)

    pub chmod_made : k ≡ 11 → Made (chmod n) → Made (made_by k n)
    unfolding made_by pick
    chmod_made e = subst (λ (j : ℕ). Made (made_by j n)) (sym e)

    pub readdir_made : k ≡ 12 → Made readdir → Made (made_by k n)
    unfolding made_by pick
    readdir_made e = subst (λ (j : ℕ). Made (made_by j n)) (sym e)

    pub stat_made : k ≡ 13 → Made stat → Made (made_by k n)
    unfolding made_by pick
    stat_made e = subst (λ (j : ℕ). Made (made_by j n)) (sym e)
