-- Laws of a file's digests: what the guard holds after a change is what the tree's bytes come to.
-- Assumes nothing.
use Rattle.std.specs.Prelude.{◌≡◌, ◌⊎◌, ℕ, ◌+◌, ◌-◌, ◌*◌, ◌≤◌, ◌<◌, ltb}
use Rattle.std.proofs.Math.Path.{refl, ap, sym}
use Rattle.std.proofs.Common.{◌∙◌, inl, inr}
use mathlib.Core.List.{List, [], map}
use native.Mathlib.Omega.{arith}
use Rattle.std.proofs.Math.ListN.{length, get_or, get_or-eq_default, get_or-map}
use borrow.Author.Tests.{ltb-true, ltb-false}
use Rattle.lists.specs.Pick.{pick, pick_true, pick-false}
use Rattle.lists.specs.Equal.{Is, is_t, is_f, is}
use Rattle.lists.specs.Cells.{inside, tab, length-tab, get_or-tab, tab_cong}
use Rattle.filesystem.specs.Tables.{pages_for}
use Rattle.filesystem.specs.Digests.{replaced}
use Rattle.rules.specs.Pages.{page_of, Change, first, last, bytes_after, size_after, FitsSize}
use Rattle.rules.proofs.PageLaws.{Where, low, mid, high, range, length-after, first-last, after_apart}
use Rattle.rules.specs.Skeleton.{Config}
use Rattle.machine.specs.Machine.{zero_digest}
use Rattle.machine.specs.Tree.{digests_of, sent_digests}

module _ (c : Config) where
  pub length_digests : (b : List ℕ) → length (digests_of c b) ≡ pages_for (length b)
  unfolding digests_of
  length_digests b = length-tab _ _

  pub digests_blank : digests_of c [] ≡ []
  unfolding digests_of pages_for tab
  digests_blank = refl

  pub digest-at : (b : List ℕ) (i : ℕ) → i < pages_for (length b) → get_or (digests_of c b) i [] ≡ c.digest (page_of b i)
  unfolding digests_of
  digest-at b i h = get_or-tab _ _ i [] h

  pub digests_at_lem : (xs : List (List ℕ)) (k : ℕ) → get_or (map (digests_of c) xs) k [] ≡ digests_of c (get_or xs k [])
  digests_at_lem xs k = ap (λ z. get_or (map (digests_of c) xs) k z) (sym digests_blank) ∙ get_or-map (digests_of c) xs k []

  -- of any page, in the file or past its end
  digest_or_zero : (b : List ℕ) (i : ℕ) → get_or (digests_of c b) i (zero_digest c) ≡ c.digest (page_of b i)
  unfolding digests_of zero_digest page_of
  digest_or_zero b i = go (is (ltb i (pages_for (length b))))
    where
      go : Is (ltb i (pages_for (length b))) → get_or (digests_of c b) i (zero_digest c) ≡ c.digest (page_of b i)
      go (is_t e) = get_or-tab _ _ i _ (ltb-true _ _ e)
      go (is_f e) =
          let z : pages_for (length b) ≤ i = ltb-false _ _ e in
          get_or-eq_default (digests_of c b) (zero_digest c) {n = i} (rw length_digests z)
          ∙ ap c.digest (tab_cong 1024 _ _ (λ j h. sym (get_or-eq_default b 0 {n = i * 1024 + j} (past z j))))
        where
          past : pages_for (length b) ≤ i → (j : ℕ) → length b ≤ i * 1024 + j
          past z j = unfold pages_for in omega arith

  pub replaced_digests : (q : Change) (b : List ℕ) → FitsSize q (length b)
      → replaced (zero_digest c) (digests_of c b) (size_after q (length b)) (first q) (sent_digests c b q (last q)) ≡ digests_of c (bytes_after q b)
  unfolding replaced digests_of sent_digests
  replaced_digests q b f =
      rw (length-after q b, length-tab (last q - first q) (λ j. c.digest (page_of (bytes_after q b) (first q + j))))
      (tab_cong _ _ _ (λ k h. cell k h (range (first q) (last q - first q) k)))
    where
      new : List (List ℕ)
      new = tab (last q - first q) (λ j. c.digest (page_of (bytes_after q b) (first q + j)))

      other : (k : ℕ) → k < pages_for (size_after q (length b)) → (k < first q) ⊎ (last q ≤ k)
          → get_or (digests_of c b) k (zero_digest c) ≡ c.digest (page_of (bytes_after q b) k)
      other k h o = digest_or_zero b k ∙ ap c.digest (sym (after_apart q b k f o h))

      cell : (k : ℕ) → k < pages_for (size_after q (length b)) → Where (first q) (last q - first q) k
          → pick (inside (first q) (last q - first q) k) (get_or new (k - first q) []) (get_or (digests_of c b) k (zero_digest c)) ≡ c.digest (page_of (bytes_after q b) k)
      cell k h (low a e) = pick-false _ _ _ e ∙ other k h (inl a)
      cell k h (mid a m e) =
          pick_true _ _ _ e
          ∙ (get_or-tab (last q - first q) (λ j. c.digest (page_of (bytes_after q b) (first q + j))) (k - first q) [] (omega arith)
          ∙ ap (λ n. c.digest (page_of (bytes_after q b) n)) (omega arith))
      cell k h (high a m e) = let z = first-last q (length b) f in pick-false _ _ _ e ∙ other k h (inr (omega arith))
