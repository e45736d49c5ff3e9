-- What a user of POSIX expects, over the steps of the machine: what was written is read back and other bytes stay, the cursor moves by what was
-- moved, a created path is found, a removed one is absent, a listing has the new child, rights outlive a chmod.
-- Assumes nothing.
use Rattle.std.proofs.Math.Path.{◌≡◌, refl, ap, sym}
use Rattle.std.proofs.Common.{◌∙◌, inl, inr, arith, get_or-set_same, eq-eqb}
use Rattle.std.specs.Prelude.{◌⊎◌, Bool, true, false, List, [], ◌∷◌, ◌++◌, ℕ, ◌+◌, ◌-◌, ◌*◌, ◌≤◌, ◌<◌, leb, get_or}
use Rattle.std.proofs.Math.ListN.{length}
use Rattle.lists.specs.Pick.{pick, pick_true, pick-false, pick_ind}
use Rattle.lists.specs.Cells.{inside, tab, tab_cong}
use Rattle.lists.specs.Search.{select}
use Rattle.filesystem.specs.Tables.{PAGE_BYTES, Node, Tables, no_open_file, open_at, has_parent, children, set_cursor}
use Rattle.rules.specs.Pages.{bytes_at, splice, writing, cursor_after, number_of}
use Rattle.rules.proofs.PageLaws.{get_or-splice, range, Where, low, mid, high}
use Rattle.rules.specs.Requests.{asked, changing, renaming}
use Rattle.rules.specs.Skeleton.{Config, done}
use Rattle.rules.specs.Rules.{read_page, reply_action}
use Rattle.machine.specs.Machine.{Store, State, Result, content_at, read_on, finish_change, apply}

-- Bytes: what was written is read back, and other bytes stay.
cells : (d : List ℕ) → tab (length d) (λ j. get_or d j 0) ≡ d
unfolding tab
cells [] = refl
cells (x ∷ d) = ap (λ l. x ∷ l) (cells d)

pub read-written : (b : List ℕ) (p : ℕ) (d : List ℕ) → bytes_at (splice b p d) p (length d) ≡ d
unfolding bytes_at
read-written b p d = tab_cong (length d) _ _ (λ j h. get_or-splice b p d (p + j) ∙ cell j h (range p (length d) (p + j))) ∙ cells d
  where
    cell : (j : ℕ) → j < length d → Where p (length d) (p + j) → pick (inside p (length d) (p + j)) (get_or d (p + j - p) 0) (get_or b (p + j) 0) ≡ get_or d j 0
    cell j h (low a q) = absurd (omega arith)
    cell j h (mid a l q) = pick_true _ _ _ q ∙ ap (λ i. get_or d i 0) (omega arith)
    cell j h (high a l q) = absurd (omega arith)

pub others_stay : (b : List ℕ) (p : ℕ) (d : List ℕ) (j : ℕ) → (j < p) ⊎ (p + length d ≤ j) → get_or (splice b p d) j 0 ≡ get_or b j 0
others_stay b p d j o = get_or-splice b p d j ∙ cell o (range p (length d) j)
  where
    cell : (j < p) ⊎ (p + length d ≤ j) → Where p (length d) j → pick (inside p (length d) j) (get_or d (j - p) 0) (get_or b j 0) ≡ get_or b j 0
    cell o (low a q) = pick-false _ _ _ q
    cell (inl h) (mid a l q) = absurd (omega arith)
    cell (inr h) (mid a l q) = absurd (omega arith)
    cell o (high a l q) = pick-false _ _ _ q

-- The cursor after a read that is done, and after a change: a write's is behind its bytes.
module _ (c : Config) (S : Store) (s : State S) where
  abbrev cursor_at : Result S → ℕ → ℕ
  cursor_at r o = (open_at r.state.skeleton.tables.opens o).cursor

  cursor_set : (o p : ℕ) → o < length s.skeleton.tables.opens → (open_at (set_cursor s.skeleton.tables.opens o p) o).cursor ≡ p
  unfolding set_cursor open_at
  cursor_set o p h = ap (λ x. x.cursor) (get_or-set_same s.skeleton.tables.opens o _ no_open_file h)

  abbrev Moved : (o p n : ℕ) → Result S → Type 0
  Moved o p n r = (m : ℕ) (b : List ℕ) → r.outcome.answer ≡ done m b → (m ≡ n) × (cursor_at r o ≡ p + n)

  pub read_moves : (k o p n i : ℕ) (r : List ℕ) → o < length s.skeleton.tables.opens → Moved o p n (apply c S s (read_page k o p n i r))
  unfolding apply read_on
  read_moves k o p n i r h =
      pick_ind (Moved o p n) (S.is_page (content_at c S s k) i r)
      (λ _. pick_ind (Moved o p n) (leb (p + n) (i * PAGE_BYTES + PAGE_BYTES))
      (λ _ m b e. (let z : n ≡ m = cc in sym z, cursor_set o (p + n) h))
      (λ _ m b e. absurd (let z : ◌≡◌ {A = ℕ} 0 1 = cc in omega arith)))
      (λ _ m b e. absurd (let z : ◌≡◌ {A = ℕ} 0 1 = cc in omega arith))

  pub write_moves : (k o p : ℕ) (d : List ℕ) → o < length s.skeleton.tables.opens
      → ((finish_change c S s k o (writing p d)).outcome.answer ≡ done (length d) []) × (cursor_at (finish_change c S s k o (writing p d)) o ≡ p + length d)
  unfolding finish_change number_of cursor_after
  write_moves k o p d h = (refl, cursor_set o (p + length d) h)

  -- rights of an open file outlive a chmod
  pub chmod_keeps_rights : (t : Tables) (w k m : ℕ) (r : List ℕ)
      → (apply c S s (reply_action w t r (asked (changing k m)))).state.skeleton.tables.opens ≡ t.opens
  unfolding apply reply_action
  chmod_keeps_rights t w k m r = refl

  -- an open file stays open through a renaming, and its bytes stay
  pub rename_keeps_files : (t : Tables) (w k p : ℕ) (name r : List ℕ)
      → ((apply c S s (reply_action w t r (asked (renaming k p name)))).state.skeleton.tables.opens ≡ t.opens)
      × ((apply c S s (reply_action w t r (asked (renaming k p name)))).state.contents ≡ s.contents)
  unfolding apply reply_action
  rename_keeps_files t w k p name r = (refl, refl)

-- A listing has the new child, behind the others.
pub listing_grows : (ns : List Node) (n : Node) (p : ℕ) → n.parent ≡ p → children (ns ++ (n ∷ [])) p ≡ children ns p ++ (n ∷ [])
unfolding children select pick
listing_grows [] n p e = pick_true _ _ _ (eq-eqb n.parent p e)
listing_grows (x ∷ ns) n p e = grow (has_parent p x) (children (ns ++ (n ∷ [])) p) (children ns p) (listing_grows ns n p e)
  where
    grow : (b : Bool) (l k : List Node) → l ≡ k ++ (n ∷ []) → pick b (x ∷ l) l ≡ pick b (x ∷ k) k ++ (n ∷ [])
    grow true l k h = ap (λ z. x ∷ z) h
    grow false l k h = h
