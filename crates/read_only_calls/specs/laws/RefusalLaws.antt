-- What a call that was read means for a read-only guard.
-- Assumes nothing.
use Rattle.std.specs.Prelude.{◌≡◌, Bool, ◌&&◌, List, [], ◌∷◌, ◌++◌, eqb, leb, length, get_or, take, drop}
use Rattle.std.specs.Prelude.{Result, Ok, Err}
use Rattle.std.proofs.Math.Path.{refl, ap, sym}
use Rattle.std.proofs.Common.{◌∙◌, subst, true≢false, arith, eqb-true}
use Rattle.std.proofs.Math.Bool.{true, false, not}
use Rattle.std.proofs.lemmas.Bool.{false≢true, eqb-false}
use Rattle.std.proofs.Math.Option.{Option, some, none}
use Prim.Native.Nat.{ℕ, ◌-◌, ◌<◌, ◌≤◌}
use Rattle.lists.specs.Pick.{pick, pick_ind}
use Rattle.lists.specs.Equal.{Is, is_t, is_f, is}
use Rattle.lists.specs.Form.{bind}
use Rattle.lists.specs.Checks.{decide}
use Rattle.filesystem.specs.Paths.{Path, read_path, too_long}
use Rattle.filesystem.specs.Tables.{ID_BYTES, DATA_BYTES}
use Rattle.rules.specs.Calls.{Call, create, mkdir, open_as, remove, rmdir, chmod, readdir, stat, by_path}
use Rattle.rules.specs.Calls.{rename, read, by_number_and_path, by_handle, by_handle_and_number, read_fields, read_call}
use Rattle.rules.specs.Rules.{call_or, is_none}
use Rattle.call_reader.specs.declared.ParsedCall.{ParsedCall}
use Rattle.call_reader.specs.declared.ParsedCall.TheVariants.{ByPath, Close, Seek, Read, Write, Truncate}
use Rattle.call_reader.specs.declared.ParsedCall.TheVariants.{Map, Unmap, Rename}
use Rattle.call_reader.specs.Meaning.{made_by, meant, NumberFits}
use Rattle.call_reader.specs.laws.FieldLaws.{kind_read}
use Rattle.call_reader.specs.laws.KindLaws.{last_kind}
use Rattle.call_reader.specs.laws.RestLaws.{rest}
use Rattle.paths.specs.declared.PathFault.{PathFault}
use Rattle.paths.specs.declared.PathFault.TheVariants.{Malformed as BadForm, TooLong}
use Rattle.paths.specs.PathForms.{length_form, path_form, form_of, worse, forms_of}
use Rattle.read_only.specs.ReadOnly.{takes_call, length_checks}
use Rattle.read_only_calls.specs.Refusals.{takes_by_path, takes_parsed, number_of_form, form_number, Taken, Refuses}

-- what holds of each call by path holds of the one that is made
made_ind : (F : Call → Type 0) (k n : ℕ) (p : Path) → F (create n p) → F (mkdir n p) → F (open_as n p) → F (remove p)
    → F (rmdir p) → F (chmod n p) → F (readdir p) → F (stat p) → F (made_by k n p)
unfolding made_by
made_ind F k n p a b c d e f g h =
    pick_ind F (eqb k 1) (λ _. a) (λ _. pick_ind F (eqb k 2) (λ _. b) (λ _. pick_ind F (eqb k 3) (λ _. c)
    (λ _. pick_ind F (eqb k 9) (λ _. d) (λ _. pick_ind F (eqb k 10) (λ _. e) (λ _. pick_ind F (eqb k 11) (λ _. f)
    (λ _. pick_ind F (eqb k 12) (λ _. g) (λ _. h)))))))

-- 36 of each
made_length : (k n : ℕ) (p : Path) → length_checks (made_by k n p) ≡ (36, too_long p) ∷ []
unfolding length_checks
made_length k n p = made_ind (λ q. length_checks q ≡ (36, too_long p) ∷ []) k n p refl refl refl refl refl refl refl refl

-- the kind tells whether it is taken
same_made : (b₁ b₂ b₃ b₉ b₁₀ b₁₁ b₁₂ : Bool) (n : ℕ) (p q : Path)
    → takes_call (pick b₁ (create n p) (pick b₂ (mkdir n p) (pick b₃ (open_as n p) (pick b₉ (remove p) (pick b₁₀ (rmdir p)
    (pick b₁₁ (chmod n p) (pick b₁₂ (readdir p) (stat p))))))))
    ≡ takes_call (pick b₁ (create n q) (pick b₂ (mkdir n q) (pick b₃ (open_as n q) (pick b₉ (remove q) (pick b₁₀ (rmdir q)
    (pick b₁₁ (chmod n q) (pick b₁₂ (readdir q) (stat q))))))))
unfolding takes_call pick
same_made true b₂ b₃ b₉ b₁₀ b₁₁ b₁₂ n p q = refl
same_made false true b₃ b₉ b₁₀ b₁₁ b₁₂ n p q = refl
same_made false false true b₉ b₁₀ b₁₁ b₁₂ n p q = refl
same_made false false false true b₁₀ b₁₁ b₁₂ n p q = refl
same_made false false false false true b₁₁ b₁₂ n p q = refl
same_made false false false false false true b₁₂ n p q = refl
same_made false false false false false false true n p q = refl
same_made false false false false false false false n p q = refl

made_taken : (k n : ℕ) (p : Path) → takes_call (made_by k n p) ≡ takes_by_path k n
unfolding made_by takes_by_path
made_taken k n p =
    same_made (eqb k 1) (eqb k 2) (eqb k 3) (eqb k 9) (eqb k 10) (eqb k 11) (eqb k 12) n p []

-- open, readdir and stat are the only ones
pub others_refused : (k n : ℕ) → NumberFits k n → (k ≡ 3 → ⊥) → (k ≡ 12 → ⊥) → (k ≡ 13 → ⊥)
    → takes_by_path k n ≡ false
unfolding takes_by_path made_by takes_call
others_refused k n h n₃ n₁₂ n₁₃ =
    let F : Call → Type 0 = λ q. takes_call q ≡ false in
    pick_ind F (eqb k 1) (λ _. refl) (λ a₁. pick_ind F (eqb k 2) (λ _. refl)
    (λ a₂. pick_ind F (eqb k 3) (λ e. absurd (n₃ (eqb-true k 3 e)))
    (λ _. pick_ind F (eqb k 9) (λ _. refl) (λ a₉. pick_ind F (eqb k 10) (λ _. refl)
    (λ a₁₀. pick_ind F (eqb k 11) (λ _. refl) (λ a₁₁. pick_ind F (eqb k 12) (λ e. absurd (n₁₂ (eqb-true k 12 e)))
    (λ _. absurd (n₁₃ (last_kind k n h (eqb-false k 1 a₁) (eqb-false k 2 a₂) n₃ (eqb-false k 9 a₉) (eqb-false k 10 a₁₀)
    (eqb-false k 11 a₁₁) n₁₂)))))))))

-- the path tells the number of one that is not taken
module _ (k n : ℕ) (no : takes_by_path k n ≡ false) where
  at_path : (o : Option Path) → number_of_form (path_form o) ≡ form_number (bind o (λ p. some (made_by k n p)))
  unfolding path_form length_form number_of_form form_number is_none call_or bind decide pick
  at_path none = refl
  at_path (some p) =
      go (too_long p) ∙ sym (ap₂' (made_length k n p) (ap not (made_taken k n p ∙ no)))
    where
      go : (b : Bool) → number_of_form (length_form b) ≡ decide (λ m. m) ((36, b) ∷ (30, true) ∷ []) 0
      go true = refl
      go false = refl

      ap₂' : length_checks (made_by k n p) ≡ (36, too_long p) ∷ [] → not (takes_call (made_by k n p)) ≡ true
          → decide (λ m. m) (length_checks (made_by k n p) ++ ((30, not (takes_call (made_by k n p))) ∷ [])) 0
          ≡ decide (λ m. m) ((36, too_long p) ∷ (30, true) ∷ []) 0
      ap₂' x y = λ i. decide (λ m. m) (x i ++ ((30, y i) ∷ [])) 0

  pub path_refused : (start : ℕ) (s : List ℕ)
      → number_of_form (form_of (take (length s - start) (drop start s))) ≡ form_number (meant (ByPath k n start) s)
  unfolding meant by_path form_of
  path_refused start s = ap (λ t. number_of_form (form_of t)) (rest s start) ∙ at_path (read_path (drop start s))

-- both paths of a rename tell its number
at_paths : (o r : Option Path) → number_of_form (worse (path_form o) (path_form r))
    ≡ form_number (bind o (λ p. bind r (λ q. some (rename p q))))
unfolding path_form length_form worse number_of_form form_number is_none call_or length_checks takes_call bind decide pick
at_paths none r = refl
at_paths (some p) none = go (too_long p)
  where
    go : (b : Bool) → number_of_form (worse (length_form b) (Err BadForm)) ≡ 22
    go true = refl
    go false = refl
at_paths (some p) (some q) = go (too_long p) (too_long q)
  where
    go : (a b : Bool) → number_of_form (worse (length_form a) (length_form b))
        ≡ decide (λ m. m) ((36, a) ∷ (36, b) ∷ (30, true) ∷ []) 0
    go true true = refl
    go true false = refl
    go false true = refl
    go false false = refl

pub rename_refused : (second : ℕ) (s : List ℕ)
    → number_of_form (forms_of (take (second - 2) (drop 2 s)) (take (length s - second) (drop second s)))
    ≡ form_number (meant (Rename second) s)
unfolding meant by_path form_of
rename_refused second s =
    ap (λ t. number_of_form (forms_of (take (second - 2) (drop 2 s)) t)) (rest s second)
    ∙ at_paths (read_path (take (second - 2) (drop 2 s))) (read_path (drop second s))

-- a call that goes the guard's way is taken, or no call
pub parsed_taken : (p : ParsedCall) (s : List ℕ) → takes_parsed p ≡ true → takes_call (call_or (meant p s)) ≡ true
unfolding takes_parsed meant takes_call call_or by_path bind
parsed_taken (ByPath k n start) s h = go (read_path (drop start s))
  where
    go : (o : Option Path) → takes_call (call_or (bind o (λ p. some (made_by k n p)))) ≡ true
    go none = refl
    go (some p) = made_taken k n p ∙ h
parsed_taken (Close x) s h = refl
parsed_taken (Seek x n) s h = refl
parsed_taken (Read x n) s h = refl
parsed_taken (Write x start) s h = absurd (false≢true h)
parsed_taken (Truncate x n) s h = absurd (false≢true h)
parsed_taken (Map n) s h = absurd (false≢true h)
parsed_taken (Unmap a) s h = absurd (false≢true h)
parsed_taken (Rename second) s h = absurd (false≢true h)

-- what is no call goes the guard's way
pub nothing_refused : (s : List ℕ) → none ≡ read_call ID_BYTES s → Refuses 0 s
unfolding takes_call call_or
nothing_refused s e = record {
  taken = λ _. ap (λ o. takes_call (call_or o)) (sym e);
  number = λ h. absurd (h refl);
}

-- any other that has no path is refused 30
abbrev pub NoPath : ParsedCall → Type 0
NoPath (ByPath k n start) = ⊥
NoPath (Close x) = Unit {0}
NoPath (Seek x n) = Unit {0}
NoPath (Read x n) = Unit {0}
NoPath (Write x start) = Unit {0}
NoPath (Truncate x n) = Unit {0}
NoPath (Map n) = Unit {0}
NoPath (Unmap a) = Unit {0}
NoPath (Rename second) = ⊥

pub other_refused : (p : ParsedCall) (s : List ℕ) → takes_parsed p ≡ false → NoPath p → 30 ≡ form_number (meant p s)
unfolding takes_parsed form_number meant takes_call length_checks call_or is_none decide pick
other_refused (ByPath k n start) s h x = absurd x
other_refused (Close a) s h x = absurd (true≢false h)
other_refused (Seek a n) s h x = absurd (true≢false h)
other_refused (Read a n) s h x = absurd (true≢false h)
other_refused (Write a start) s h x = refl
other_refused (Truncate a n) s h x = refl
other_refused (Map n) s h x = refl
other_refused (Unmap a) s h x = refl
other_refused (Rename second) s h x = absurd x

-- no number is 0
pub form_positive : (form : Result (Unit {0}) PathFault) → 0 < number_of_form form
unfolding number_of_form
form_positive (Err BadForm) = omega arith
form_positive (Err TooLong) = omega arith
form_positive (Ok tt) = omega arith

-- A call whose kind is taken is taken, or no call.
bound_taken : {A : Type 0} (o : Option A) (f : A → Option Call) → ((x : A) → takes_call (call_or (f x)) ≡ true)
    → takes_call (call_or (bind o f)) ≡ true
unfolding bind call_or takes_call
bound_taken none f h = refl
bound_taken (some x) f h = h x

allowed_taken : (b : Bool) (q : Call) → takes_call q ≡ true → takes_call (call_or (pick b (some q) none)) ≡ true
unfolding call_or takes_call pick
allowed_taken true q h = h
allowed_taken false q h = refl

module _ (t : List ℕ) where
  close-taken : takes_call (call_or (read_fields ID_BYTES 4 t)) ≡ true
  unfolding read_fields by_handle pick
  close-taken = bound_taken _ _ (λ x. unfold call_or takes_call in refl)

  seek-taken : takes_call (call_or (read_fields ID_BYTES 5 t)) ≡ true
  unfolding read_fields by_handle_and_number pick
  seek-taken = bound_taken _ _ (λ x. unfold call_or takes_call in refl)

  read_taken : takes_call (call_or (read_fields ID_BYTES 6 t)) ≡ true
  unfolding read_fields by_handle_and_number pick
  read_taken = bound_taken _ _ (λ (x : ℕ × ℕ).
      allowed_taken (leb x.1 DATA_BYTES) (read x.0 x.1) (unfold takes_call in refl))

  readdir-taken : takes_call (call_or (read_fields ID_BYTES 12 t)) ≡ true
  unfolding read_fields by_path pick
  readdir-taken = bound_taken _ _ (λ x. unfold call_or takes_call in refl)

  stat-taken : takes_call (call_or (read_fields ID_BYTES 13 t)) ≡ true
  unfolding read_fields by_path pick
  stat-taken = bound_taken _ _ (λ x. unfold call_or takes_call in refl)

-- an open with rights 1
open_taken : (t : List ℕ) → get_or t 0 0 ≡ 1 → takes_call (call_or (read_fields ID_BYTES 3 t)) ≡ true
unfolding read_fields by_number_and_path by_path pick call_or takes_call
open_taken [] h = refl
open_taken (n ∷ t) h =
    subst (λ k. takes_call (call_or (pick (leb 1 k && leb k 3) (bind (read_path t) (λ p. some (open_as k p))) none)) ≡ true)
    (sym h)
    (bound_taken (read_path t) _ (λ x. refl))

module _ (s : List ℕ) (long : 0 < length s) where
  abbrev Takes : ℕ → Type 0
  Takes k = takes_call (call_or (read_fields ID_BYTES k (drop 1 s))) ≡ true

  by_kind : Takes (get_or s 0 0) → takes_call (call_or (read_call ID_BYTES s)) ≡ true
  by_kind h = ap (λ o. takes_call (call_or o)) (sym (kind_read ID_BYTES s long)) ∙ h

  pub handle_taken : 4 ≤ get_or s 0 0 → get_or s 0 0 ≤ 6 → takes_call (call_or (read_call ID_BYTES s)) ≡ true
  handle_taken l m = by_kind (go (is (eqb (get_or s 0 0) 4)) (is (eqb (get_or s 0 0) 5)))
    where
      go : Is (eqb (get_or s 0 0) 4) → Is (eqb (get_or s 0 0) 5) → Takes (get_or s 0 0)
      go (is_t a) b = subst Takes (sym (eqb-true _ _ a)) (close-taken (drop 1 s))
      go (is_f a) (is_t b) = subst Takes (sym (eqb-true _ _ b)) (seek-taken (drop 1 s))
      go (is_f a) (is_f b) =
          let six : get_or s 0 0 ≡ 6 = omega (arith, eqb-false (get_or s 0 0) 4 a, eqb-false (get_or s 0 0) 5 b, l, m) in
          subst Takes (sym six) (read_taken (drop 1 s))

  pub node-taken : 12 ≤ get_or s 0 0 → get_or s 0 0 ≤ 13 → takes_call (call_or (read_call ID_BYTES s)) ≡ true
  node-taken l m = by_kind (go (is (eqb (get_or s 0 0) 12)))
    where
      go : Is (eqb (get_or s 0 0) 12) → Takes (get_or s 0 0)
      go (is_t a) = subst Takes (sym (eqb-true _ _ a)) (readdir-taken (drop 1 s))
      go (is_f a) =
          let last : get_or s 0 0 ≡ 13 = omega (arith, eqb-false (get_or s 0 0) 12 a, l, m) in
          subst Takes (sym last) (stat-taken (drop 1 s))

  pub opening_taken : get_or s 0 0 ≡ 3 → get_or s 1 0 ≡ 1 → takes_call (call_or (read_call ID_BYTES s)) ≡ true
  opening_taken e h = by_kind (subst Takes (sym e) (open_taken (drop 1 s) (second s h)))
    where
      second : (s : List ℕ) → get_or s 1 0 ≡ 1 → get_or (drop 1 s) 0 0 ≡ 1
      second [] h = h
      second (k ∷ s) h = h

pub is_taken : (s : List ℕ) → takes_call (call_or (read_call ID_BYTES s)) ≡ true → Taken true s
is_taken s h = record { taken = λ _. h; other = λ e. absurd (true≢false e) }

pub is_other : (s : List ℕ) → (4 ≤ get_or s 0 0 → 6 < get_or s 0 0) → Taken false s
is_other s h = record { taken = λ e. absurd (false≢true e); other = λ _. h }

pub is_nothing : (s : List ℕ) → length s ≡ 0 → Taken false s
is_nothing [] h = is_other [] (λ l. absurd (omega arith))
is_nothing (k ∷ s) h = absurd (omega arith)
