-- What the judging function answers, the memory that waits and the request that was written are what the machine makes
-- of a rename.
-- Assumes nothing.
use Rattle.std.specs.Prelude.{◌≡◌, Bool, true, false, List, [], ◌∷◌, ◌++◌, ℕ, ◌+◌, ◌-◌, ◌<◌, ◌≤◌, take, drop}
use Rattle.std.proofs.Math.Path.{refl, ap, subst}
use Rattle.std.proofs.Common.{sym, ◌∙◌, arith, length-append}
use Rattle.std.proofs.Math.Option.{Option, some, none}
use Rattle.std.proofs.Math.ListN.{length}
use Rattle.lists.specs.Pick.{pick}
use Rattle.lists.specs.Checks.{Check}
use Rattle.filesystem.specs.Tables.{Node, Tables, node_at}
use Rattle.filesystem.specs.Paths.{Path, read_path, walk, parent_of, last_of}
use Rattle.filesystem.specs.PathLaws.{read_path-was-bytes}
use Rattle.filesystem.specs.Image.{sound_nodes}
use Rattle.filesystem.specs.Sound.{to_sound}
use Rattle.rules.specs.Calls.{rename, call_bytes}
use Rattle.rules.specs.Requests.{asked, renaming}
use Rattle.rules.specs.Skeleton.{Config, at_front}
use Rattle.rules.specs.Rules.{Move as Step, refuse, finish, send, same_path, call_checks, call_action}
use Rattle.machine.specs.Machine.{State, guard as digest_store}
use Rattle.machine.specs.Consistent.{Consistent}
use Rattle.memory.specs.Layout.{mem_of}
use Rattle.tables.specs.View.{tables_in}
use Rattle.tables.specs.laws.RowsInUse.{node_front_lem}
use Rattle.paths.specs.laws.FormAnswers.{read_components}
use Rattle.paths.specs.laws.WalkAnswers.{last-start}
use Rattle.requests.specs.PathRequests.{rename_request}
use Rattle.guard_state.specs.State.{numbers_of, state_of, gathered_none}
use Rattle.guard_state.specs.laws.LoadedLaws.{tables-loaded, node-loaded, nodes-count}
use Rattle.guard_state.specs.Waits.{waits, ends}
use Rattle.outcomes.specs.declared.Outcome.{Outcome}
use Rattle.outcomes.specs.declared.Outcome.TheVariants.{Ask, Done as done_with, Refused as refused_with}
use Rattle.outcomes.specs.Sent.{Sends}
use Rattle.outcomes.specs.laws.SentLaws.{refusal_sends, request_sends, finish_sends}
use Rattle.path_calls.specs.Judged.{judged}
use Rattle.path_calls.specs.laws.BegunLaws.{both-judged}
use Rattle.renames.specs.Judged.{moved, judged_both, renaming_for}
use Rattle.renames.specs.Begun.{rename_begun}
use Rattle.refusals.specs.Numbers.{Judged, number_of}
use Rattle.refusals.specs.declared.Refusal.{Refusal}
use Rattle.renames.specs.laws.NameLaws.{node_in, parent_in, start_in}
use Rattle.renames.specs.declared.Move.{Move}
use Rattle.std.specs.Prelude.{Option as Maybe, None, Ok, Err}

-- two answers by the same checks
module _ {A B : Type 0} (F : A → B → Type 0) (a : ℕ → A) (b : ℕ → B) (stop : (n : ℕ) → F (a n) (b n)) where
  two-judged : (checks : Path → Path → List Check) (x : Path → Path → A) (y : Path → Path → B) (s t : List ℕ)
      → ((p q : Path) → read_path s ≡ some p → read_path t ≡ some q → F (x p q) (y p q))
      → F (judged_both a checks x s t) (judged_both b checks y s t)
  unfolding judged_both
  two-judged checks x y s t g = go (read_path s) refl
    where
      go : (o : Option Path) → read_path s ≡ o
          → F (elim o [ none ↦ a 22 | some p ↦ judged a (checks p) (x p) t ])
          (elim o [ none ↦ b 22 | some p ↦ judged b (checks p) (y p) t ])
      go none e = stop 22
      go (some p) e = both-judged F a b stop (checks p) (x p) (y p) t (λ q r h. g p q e r)

-- picked alike
pick-both : {A B : Type 0} (F : A → B → Type 0) (b : Bool) {x y : A} {u v : B} → (b ≡ true → F x u)
    → (b ≡ false → F y v) → F (pick b x y) (pick b u v)
unfolding pick
pick-both F true f g = f refl
pick-both F false f g = g refl

-- the name stands at the end of its path
drop-length : (l : List ℕ) → drop (length l) l ≡ []
drop-length [] = refl
drop-length (x ∷ l) = drop-length l

name-at : (t : List ℕ) (q : Path) → read_path t ≡ some q → drop (length t - length (last_of q)) t ≡ last_of q
unfolding last_of
name-at t [] e = let n : length t - 0 ≡ length t = omega arith in ap (λ i. drop i t) n ∙ drop-length t
name-at t (c ∷ cs) e = last-start t c cs (read_components t (c ∷ cs) e)

module _ (first second : List ℕ) (t : Tables) (w : ℕ) where
  -- what goes out and waits
  abbrev sent : (k d at : ℕ) → Step
  sent k d at = send (asked (renaming k (node_at t.nodes d).id (drop at second))) (rename_request first second)

  record Says (r : Judged (Maybe Move)) (m : Step) : Type 0 where
    refuses : (n : ℕ) → r ≡ Err n → m ≡ refuse n
    same : r ≡ Ok None → m ≡ finish t 0 []
    moves : (k d at : ℕ) → r ≡ moved k d at → m ≡ sent k d at

  says_refused : (n : ℕ) → Says (Err n) (refuse n)
  says_refused n = record {
    refuses = λ k e. let z : n ≡ k = cc in ap refuse z;
    same = λ e. absurd (let z : ◌≡◌ {A = ℕ} 0 1 = cc in omega arith);
    moves = λ k d at e. absurd (let z : ◌≡◌ {A = ℕ} 0 1 = cc in omega arith);
  }

  says_same : Says (Ok None) (finish t 0 [])
  says_same = record {
    refuses = λ n e. absurd (let z : ◌≡◌ {A = ℕ} 0 1 = cc in omega arith);
    same = λ e. refl;
    moves = λ k d at e. absurd (let z : ◌≡◌ {A = ℕ} 0 1 = cc in omega arith);
  }

  says_moves : (k d at : ℕ) → Says (moved k d at) (sent k d at)
  says_moves k d at = record {
    refuses = λ n e. absurd (let z : ◌≡◌ {A = ℕ} 0 1 = cc in omega arith);
    same = λ e. absurd (let z : ◌≡◌ {A = ℕ} 0 1 = cc in omega arith);
    moves = λ i j x e. let u = ap node_in e in let v = ap parent_in e in let y = ap start_in e in
        λ z. sent (u z) (v z) (y z);
  }

  -- as the call itself goes out
  goes_out : (p q : Path) → read_path first ≡ some p → read_path second ≡ some q
      → rename_request first second ≡ call_bytes w (rename p q)
  unfolding rename_request call_bytes
  goes_out p q e f =
      let x = (read_path-was-bytes first p e).0 in
      let y = (read_path-was-bytes second q f).0 in
      λ i. 16 ∷ length (x i) ∷ (x i ++ y i)

  says : Says (renaming_for t first second)
      (judged_both refuse (λ p q. call_checks t (rename p q)) (λ p q. call_action t w (rename p q)) first second)
  unfolding renaming_for call_action
  says =
      two-judged Says Err refuse says_refused _ _ _ first second
      (λ p q e f. pick-both Says (same_path t p q) (λ _. says_same) (λ _.
      let k = walk t.nodes 0 p in
      let d = parent_of t.nodes 0 q in
      subst (Says (moved k d (length second - length (last_of q))))
      (λ i. send (asked (renaming k (node_at t.nodes d).id (name-at second q f i))) (goes_out p q e f i))
      (says_moves k d (length second - length (last_of q)))))

module _ (first second : List ℕ) (c : Config) (s : State (digest_store c)) (r : Judged (Maybe Move))
    (e : r ≡ renaming_for s.skeleton.tables first second) where
  abbrev t : Tables
  t = s.skeleton.tables

  pub rename_refused : (b : Refusal) (m q : List ℕ) → r ≡ Err (number_of b) → state_of c m ≡ s
      → Sends c (rename_begun c s first second) (refused_with b) m q q
  unfolding rename_begun
  rename_refused b m q f g =
      refusal_sends c s _ b m q ((says first second t c.width).refuses (number_of b) (sym e ∙ f)) g

  pub rename_same : (m q : List ℕ) (o : Outcome) → r ≡ Ok None → state_of c m ≡ ends c s t s.contents
      → o ≡ done_with 0 0 → Sends c (rename_begun c s first second) o m q q
  unfolding rename_begun
  rename_same m q o f g u =
      subst (λ (x : Outcome). Sends c (rename_begun c s first second) x m q q) (sym u)
      (finish_sends c s _ t 0 m q ((says first second t c.width).same (sym e ∙ f)) g)

  pub rename_sends : (k d at : ℕ) (m q q' : List ℕ) (o : Outcome) → r ≡ moved k d at
      → state_of c m ≡ waits c s (asked (renaming k (node_at t.nodes d).id (drop at second))) gathered_none
      → q' ≡ at_front (rename_request first second) q → o ≡ Ask (length (rename_request first second))
      → length (rename_request first second) ≤ length q → Sends c (rename_begun c s first second) o m q q'
  unfolding rename_begun
  rename_sends k d at m q q' o f g u v h =
      request_sends c s _ _ (rename_request first second) m q q' o
      ((says first second t c.width).moves k d at (sym e ∙ f)) g u v h

pub request_length_lem : (s t : List ℕ) → length (rename_request s t) ≡ 2 + length s + length t
unfolding rename_request
request_length_lem s t = let z = length-append s t in omega arith

-- what was judged on the memory's rows is judged on the state
module _ (c : Config) (m : List ℕ) (n : ℕ) (counted : n ≡ (numbers_of (mem_of m).head).nodes)
    (h : Consistent c (state_of c m)) where
  pub no-guard : n ≡ 0 → ⊥
  no-guard e =
      let r = (to_sound c.width (state_of c m).skeleton.tables.nodes
      h.holds.valid.tables.nodes_valid.sound).has-root in
      omega (arith, nodes-count c m)

  pub judged-here : (r : Judged (Maybe Move)) (first second : List ℕ)
      → ((w o : ℕ) → sound_nodes w (take n (mem_of m).nodes) ≡ true
      → r ≡ renaming_for (tables_in n o (mem_of m)) first second)
      → r ≡ renaming_for (state_of c m).skeleton.tables first second
  unfolding tables_in
  judged-here r first second f =
      let o = (numbers_of (mem_of m).head).opens in
      let e : tables_in n o (mem_of m) ≡ (state_of c m).skeleton.tables =
      ap (λ i. tables_in i o (mem_of m)) counted ∙ tables-loaded m (numbers_of (mem_of m).head) refl c in
      f c.width o (subst (λ (x : Tables). sound_nodes c.width x.nodes ≡ true) (sym e)
      h.holds.valid.tables.nodes_valid.sound)
      ∙ ap (λ (x : Tables). renaming_for x first second) e

  pub id_here : (d : ℕ) → d < n → (node_at (mem_of m).nodes d).id ≡ (node_at (state_of c m).skeleton.tables.nodes d).id
  id_here d l =
      ap (λ (x : Node). x.id) (sym (node_front_lem n (mem_of m).nodes d l) ∙ node-loaded m c n d counted)
