-- A place leads to place 0 by one length; a climb step by step; a way that is made one step.
-- Assumes nothing.
use Rattle.std.specs.Prelude.{◌≡◌, refl, List, ℕ, zero, suc, ◌+◌, ◌≤◌, ◌<◌, eqb, length, get_or, set}
use Rattle.std.proofs.Common.{ap, ap₂, sym, ◌∙◌, subst, arith, length-set, get_or-set_same, get_or-set_other, eqb-true}
use Rattle.std.proofs.lemmas.Bool.{eqb-false}
use Rattle.lists.specs.Equal.{Is, is_t, is_f, is}
use Rattle.filesystem.specs.Tables.{PATH_BYTES}
use Rattle.links.specs.Climbs.{Leads, root, up, Linked, Alike, Reached}

-- what holds of the value that is put into place k, and of each other value in its place
pub set_ind : (P : ℕ → ℕ → Type 0) (xs : List ℕ) (k x : ℕ) → k < length xs → P k x → (j : ℕ)
    → ((j ≡ k → ⊥) → P j (get_or xs j 0))
    → P j (get_or (set xs k x) j 0)
set_ind P xs k x h f j g = go (is (eqb j k))
  where
    go : Is (eqb j k) → P j (get_or (set xs k x) j 0)
    go (is_t e) =
        subst (λ i. P i (get_or (set xs k x) i 0)) (sym (eqb-true j k e))
        (subst (P k) (sym (get_or-set_same xs k x 0 h)) f)
    go (is_f e) = let n = eqb-false j k e in subst (P j) (sym (get_or-set_other xs k j x 0 n)) (g n)

module _ {to far : List ℕ} where
  -- one step of a way
  pub step : {k b : ℕ} → Leads to far k b → 0 < k → (c : ℕ) × Leads to far (get_or to k 0) c × (b ≡ get_or far k 0 + c)
  step root h = absurd (omega arith)
  step (up {b = c} p v) h = (c, v, refl)

  pub at-root : {k b : ℕ} → Leads to far k b → k ≡ 0 → b ≡ 0
  at-root root e = refl
  at-root (up p v) e = absurd (omega arith)

  -- there is one length
  pub one-length : {k l b c : ℕ} → Leads to far k b → Leads to far l c → k ≡ l → b ≡ c
  one-length root v e = sym (at-root v (sym e))
  one-length (up p u) root e = absurd (omega arith)
  one-length (up p u) (up q v) e = ap₂ (λ k x. get_or far k 0 + x) e (one-length u v (ap (λ k. get_or to k 0) e))

-- a climb from k has come to a, by steps of length n
abbrev pub Onward : (to far : List ℕ) (k a n : ℕ) → Type 0
Onward to far k a n =
    ((b : ℕ) → Leads to far a b → Leads to far k (n + b))
    × ((c : ℕ) → Leads to far k c → (b : ℕ) × Leads to far a b × (c ≡ n + b))

module _ (to far : List ℕ) (k : ℕ) where
  pub onward_none : Onward to far k k 0
  onward_none = (λ b v. subst (Leads to far k) (omega arith) v, λ c v. (c, v, omega arith))

  module _ (a n : ℕ) (o : Onward to far k a n) (h : 0 < a) where
    pub onward-step : Onward to far k (get_or to a 0) (n + get_or far a 0)
    onward-step = (
      λ b v. subst (Leads to far k) (omega arith) (o.0 (get_or far a 0 + b) (up h v)),
      λ c v. let (b, u, e) = o.1 c v in let (d, w, f) = step u h in (d, w, omega arith),
    )

    pub onward-long : PATH_BYTES < n + get_or far a 0 → (c : ℕ) → Leads to far k c → PATH_BYTES < c
    onward-long l c v = let (b, u, e) = o.1 c v in let (d, w, f) = step u h in omega arith

-- places that reach place 0, one more
pub reached_first : (to far : List ℕ) → Reached to far 1
reached_first to far zero h = (0, omega arith, root)
reached_first to far (suc k) h = absurd (omega arith)

pub reached_next : {to far : List ℕ} {k b : ℕ} → Reached to far k → b ≤ PATH_BYTES → Leads to far k b
    → Reached to far (k + 1)
reached_next {to} {far} {k} {b} r h v j l = go (is (eqb j k))
  where
    go : Is (eqb j k) → (b : ℕ) × (b ≤ PATH_BYTES) × Leads to far j b
    go (is_t e) = (b, h, subst (λ i. Leads to far i b) (sym (eqb-true j k e)) v)
    go (is_f e) = let n = eqb-false j k e in r j (omega arith)

pub same_alike : (to far : List ℕ) → Alike to far to far
same_alike to far = (λ k b v. v, λ k b v. v)

pub alike-after : {to far to' far' to'' far'' : List ℕ} → Alike to far to' far' → Alike to' far' to'' far''
    → Alike to far to'' far''
alike-after a b = (λ k n v. b.0 k n (a.0 k n v), λ k n v. a.1 k n (b.1 k n v))

-- A place that leads to place 0 by length l, made to lead straight there.
module _ (to far : List ℕ) (a l : ℕ) (v : Leads to far a l) (some : 0 < a) (ht : a < length to) (hf : a < length far)
  where
    abbrev to' : List ℕ
    to' = set to a 0

    abbrev far' : List ℕ
    far' = set far a l

    straight : Leads to' far' a l
    straight =
        let e : get_or far' a 0 + 0 ≡ l = omega (arith, get_or-set_same far a l 0 hf) in
        subst (Leads to' far' a) e (up some (subst (λ k. Leads to' far' k 0) (sym (get_or-set_same to a 0 0 ht)) root))

    other_to : (k : ℕ) → (k ≡ a → ⊥) → get_or to' k 0 ≡ get_or to k 0
    other_to k n = get_or-set_other to a k 0 0 n

    other_far : (k : ℕ) → (k ≡ a → ⊥) → get_or far' k 0 ≡ get_or far k 0
    other_far k n = get_or-set_other far a k l 0 n

    there : (k b : ℕ) → Leads to far k b → Leads to' far' k b
    there k b root = root
    there k b (up {b = c} p u) = go (is (eqb k a)) (there (get_or to k 0) c u)
      where
        go : Is (eqb k a) → Leads to' far' (get_or to k 0) c → Leads to' far' k (get_or far k 0 + c)
        go (is_t e) w =
            let z = eqb-true k a e in
            subst (λ x. Leads to' far' x (get_or far k 0 + c)) (sym z)
            (subst (Leads to' far' a) (one-length v (up p u) (sym z)) straight)
        go (is_f e) w =
            let n = eqb-false k a e in
            subst (λ x. Leads to' far' k (x + c)) (other_far k n)
            (up p (subst (λ x. Leads to' far' x c) (sym (other_to k n)) w))

    back : (k b : ℕ) → Leads to' far' k b → Leads to far k b
    back k b root = root
    back k b (up {b = c} p u) = go (is (eqb k a)) (back (get_or to' k 0) c u)
      where
        go : Is (eqb k a) → Leads to far (get_or to' k 0) c → Leads to far k (get_or far' k 0 + c)
        go (is_t e) w =
            let z = eqb-true k a e in
            subst (λ x. Leads to far x (get_or far' k 0 + c)) (sym z)
            (subst (Leads to far a) (one-length straight (up p u) (sym z)) v)
        go (is_f e) w =
            let n = eqb-false k a e in
            subst (λ x. Leads to far k (x + c)) (sym (other_far k n))
            (up p (subst (λ x. Leads to far x c) (other_to k n) w))

    pub straight_alike : Alike to far to' far'
    straight_alike = (there, back)

    pub straight_linked : (n : ℕ) → Linked to far n → a < n → Linked to' far' n
    straight_linked n d h = record {
      few = d.few;
      to_size = length-set to a 0 ∙ d.to_size;
      far_size = length-set far a l ∙ d.far_size;
      inside = λ k p b. set_ind (λ k x. x < n) to a 0 ht (omega arith) k (λ e. d.inside k p b);
      some = λ k p b. set_ind (λ k x. 0 < x) far a l hf long k (λ e. d.some k p b);
    }
      where
        long : 0 < l
        long = let (c, _, q) = step v some in omega (arith, d.some a some h, q)
