-- The two laws of each piece of a form: what is put is got back, and what is got was so put.
-- Assumes nothing.
use Rattle.std.proofs.Math.Path.{◌≡◌, refl, ap, ap₂, sym, subst}
use Rattle.std.proofs.Common.{◌∙◌, arith, take-append-drop, take_at, le-leb, leb-true}
use Rattle.std.specs.Prelude.{Bool, true, false, leb, length}
use Rattle.std.proofs.Math.Option.{Option, some, none}
use mathlib.Core.List.{List, [], ◌∷◌, ◌++◌, append_assoc, append-nil}
use Prim.Native.Nat.{ℕ, zero, suc, ◌^◌, ◌<◌}
use Rattle.std.proofs.Math.ListN.{take, drop, length-append}
use Rattle.std.proofs.Math.Seq.{drop_at, length-take-le}
use Rattle.lists.specs.Pick.{pick, pick_true, pick-false}
use Rattle.lists.specs.Equal.{Is, is_t, is_f, is, equal, equal_true, equal_yes}
use Rattle.lists.specs.All.{All, both, none as all_none, all_take, all_drop, Bytes}
use Rattle.lists.specs.LittleEndian.{encode, decode, encode-decode, decode_below}
use Rattle.lists.specs.Form.{Form, bind, front, get₂, put₂, Ok₂, get_fixed, get_as, put_all, get_all, OkAll}
use Rattle.lists.specs.Form.{ended, whole}

pub some≢none : {A : Type 0} (a : A) → some a ≡ none → ⊥
some≢none a e = let z : ◌≡◌ {A = ℕ} 0 1 = cc in omega arith

pub bind-some : {A B : Type 0} (o : Option A) (f : A → Option B) (b : B) → bind o f ≡ some b → (a : A) × (o ≡ some a) × (f a ≡ some b)
unfolding bind
bind-some none f b e = absurd (some≢none b (sym e))
bind-some (some a) f b e = (a, refl, e)

pub pick_some : {A : Type 0} (t : Bool) (x y : A) → pick t (some x) none ≡ some y → (t ≡ true) × (x ≡ y)
unfolding pick
pick_some true x y e = (refl, cc)
pick_some false x y e = absurd (some≢none y (sym e))

module _ {A : Type 0} (n : ℕ) (f : List ℕ → A) where
  pub front-put : (b r : List ℕ) → length b ≡ n → front n f (b ++ r) ≡ some (f b, r)
  unfolding front
  front-put b r h =
      pick_true _ _ _ (le-leb n (length (b ++ r)) (rw length-append (omega arith)))
      ∙ rw (take_at b r n h, drop_at b r n h)

  pub front_got : (s : List ℕ) (a : A) (r : List ℕ) → Bytes s → front n f s ≡ some (a, r)
      → (b : List ℕ) × (length b ≡ n) × (f b ≡ a) × (s ≡ b ++ r) × Bytes b × Bytes r
  unfolding front
  front_got s a r h e =
      let q = pick_some (leb n (length s)) (f (take n s), drop n s) (a, r) e in
      let er : drop n s ≡ r = ap (λ p. p.1) q.1 in (
        take n s,
        length-take-le n s (leb-true n (length s) q.0),
        ap (λ p. p.0) q.1,
        sym (take-append-drop n s) ∙ ap (λ l. take n s ++ l) er,
        all_take n h,
        subst Bytes er (all_drop n h),
      )

-- a number of w bytes; n bytes as they are
pub num-written : (w : ℕ) (s : List ℕ) (n : ℕ) (r : List ℕ) → Bytes s → front w decode s ≡ some (n, r) → (n < 256 ^ w) × (s ≡ encode w n ++ r) × Bytes r
num-written w s n r h e =
    let (b, l, d, q, hb, hr) = front_got w decode s n r h e in
    (subst (λ m. n < 256 ^ m) l (rw d at (decode_below b hb)), q ∙ ap (λ x. x ++ r) (sym (encode-decode b hb) ∙ ap₂ encode l d), hr)

pub bytes-written : (n : ℕ) (s a r : List ℕ) → Bytes s → front n (λ b. b) s ≡ some (a, r) → ((length a ≡ n) × Bytes a) × (s ≡ a ++ r) × Bytes r
bytes-written n s a r h e =
    let (b, l, d, q, hb, hr) = front_got n (λ b. b) s a r h e in
    ((subst (λ x. length x ≡ n) d l, subst Bytes d hb), q ∙ ap (λ x. x ++ r) d, hr)

-- one form after another
module _ {A B : Type 0} (F : Form A) (G : A → Form B) where
  pub read_back₂ : (p : A × B) (r : List ℕ) → Ok₂ F G p → get₂ F G (put₂ F G p ++ r) ≡ some (p, r)
  unfolding get₂ bind
  read_back₂ p r (h, k) = rw (append_assoc (F.put p.0) ((G p.0).put p.1) r, F.read_back p.0 ((G p.0).put p.1 ++ r) h, (G p.0).read_back p.1 r k)

  pub was-written₂ : (s : List ℕ) (p : A × B) (r : List ℕ) → Bytes s → get₂ F G s ≡ some (p, r) → Ok₂ F G p × (s ≡ put₂ F G p ++ r) × Bytes r
  unfolding get₂
  was-written₂ s p r a e =
      let (u, eu, e₂) = bind-some _ _ _ e in
      let (v, ev, e₃) = bind-some _ _ _ e₂ in
      let (fo, fs, fb) = F.was-written s u.0 u.1 a eu in
      let (ho, hs, hb) = (G u.0).was-written u.1 v.0 v.1 fb ev in
      let z : ◌≡◌ {A = (A × B) × List ℕ} ((u.0, v.0), v.1) (p, r) = cc in
      subst (λ (x : (A × B) × List ℕ). Ok₂ F G x.0 × (s ≡ put₂ F G x.0 ++ x.1) × Bytes x.1) z
      ((fo, ho), fs ∙ (ap (λ l. F.put u.0 ++ l) hs ∙ sym (append_assoc (F.put u.0) ((G u.0).put v.0) v.1)), hb)

-- a form behind fixed bytes
module _ {A : Type 0} (bs : List ℕ) (F : Form A) where
  pub fixed_read_back : (a : A) (r : List ℕ) → F.ok a → get_fixed bs F ((bs ++ F.put a) ++ r) ≡ some (a, r)
  unfolding get_fixed bind
  fixed_read_back a r h =
      rw (append_assoc bs (F.put a) r, front-put (length bs) (λ b. b) bs (F.put a ++ r) refl)
      (pick_true _ _ _ (equal_yes bs bs refl) ∙ F.read_back a r h)

  pub fixed-was-written : (s : List ℕ) (a : A) (r : List ℕ) → Bytes s → get_fixed bs F s ≡ some (a, r)
      → F.ok a × (s ≡ (bs ++ F.put a) ++ r) × Bytes r
  unfolding get_fixed
  fixed-was-written s a r h e =
      let (u, eu, e₂) = bind-some _ _ _ e in
      let (b, l, d, q, hb, hr) = front_got (length bs) (λ b. b) s u.0 u.1 h eu in
      same u.0 u.1 d q hr (is (equal u.0 bs)) e₂
    where
      same : (x t : List ℕ) {b : List ℕ} → b ≡ x → s ≡ b ++ t → Bytes t → Is (equal x bs)
          → pick (equal x bs) (F.get t) none ≡ some (a, r)
          → F.ok a × (s ≡ (bs ++ F.put a) ++ r) × Bytes r
      same x t d q hr (is_f n) e = absurd (some≢none (a, r) (sym e ∙ pick-false _ _ _ n))
      same x t d q hr (is_t y) e =
          let (fo, fs, fb) = F.was-written t a r hr (sym (pick_true _ _ _ y) ∙ e) in
          (fo, q ∙ (ap₂ ◌++◌ (d ∙ equal_true x bs y) fs ∙ sym (append_assoc bs (F.put a) r)), fb)

-- the same bytes for another type: `to` and `from` undo each other on what the bytes hold
module _ {A B : Type 0} (to : A → B) (from : B → A) (F : Form A) (there : (b : B) → to (from b) ≡ b) (back : (a : A) → F.ok a → from (to a) ≡ a) where
  pub as_read_back : (b : B) (r : List ℕ) → F.ok (from b) → get_as to F (F.put (from b) ++ r) ≡ some (b, r)
  unfolding get_as bind
  as_read_back b r h = rw (F.read_back (from b) r h, there b)

  pub as_was_written : (s : List ℕ) (b : B) (r : List ℕ) → Bytes s → get_as to F s ≡ some (b, r) → F.ok (from b) × (s ≡ F.put (from b) ++ r) × Bytes r
  unfolding get_as
  as_was_written s b r h e =
      let (u, eu, e₂) = bind-some _ _ _ e in
      let (fo, fs, fb) = F.was-written s u.0 u.1 h eu in
      let z : ◌≡◌ {A = B × List ℕ} (to u.0, u.1) (b, r) = cc in
      let f : from b ≡ u.0 = ap from (sym (ap (λ p. p.0) z)) ∙ back u.0 fo in
      let q : u.1 ≡ r = ap (λ p. p.1) z in
      (subst F.ok (sym f) fo, fs ∙ ap₂ (λ x y. F.put x ++ y) (sym f) q, subst Bytes q fb)

-- n times the same form
module _ {A : Type 0} (F : Form A) where
  pub all_read_back : (xs : List A) (r : List ℕ) → All F.ok xs → get_all F (length xs) (put_all F xs ++ r) ≡ some (xs, r)
  unfolding put_all get_all bind
  all_read_back [] r a = refl
  all_read_back (x ∷ xs) r (both h a) = rw (append_assoc (F.put x) (put_all F xs) r, F.read_back x (put_all F xs ++ r) h, all_read_back xs r a)

  pub all_was_written : (n : ℕ) (s : List ℕ) (xs : List A) (r : List ℕ) → Bytes s → get_all F n s ≡ some (xs, r)
      → OkAll F n xs × (s ≡ put_all F xs ++ r) × Bytes r
  unfolding put_all get_all
  all_was_written zero s xs r h e =
      let z : ◌≡◌ {A = List A × List ℕ} ([], s) (xs, r) = cc in
      subst (λ (p : List A × List ℕ). OkAll F 0 p.0 × (s ≡ put_all F p.0 ++ p.1) × Bytes p.1) z ((refl, all_none), refl, h)
  all_was_written (suc n) s xs r h e =
      let (u, eu, e₂) = bind-some _ _ _ e in
      let (v, ev, e₃) = bind-some _ _ _ e₂ in
      let (fo, fs, fb) = F.was-written s u.0 u.1 h eu in
      let (ho, hs, hb) = all_was_written n u.1 v.0 v.1 fb ev in
      let z : ◌≡◌ {A = List A × List ℕ} (u.0 ∷ v.0, v.1) (xs, r) = cc in
      subst (λ (p : List A × List ℕ). OkAll F (suc n) p.0 × (s ≡ put_all F p.0 ++ p.1) × Bytes p.1) z
      ((ap suc ho.0, both fo ho.1), fs ∙ (ap (λ l. F.put u.0 ++ l) hs ∙ sym (append_assoc (F.put u.0) (put_all F v.0) v.1)), hb)

-- the whole of the bytes
module _ {A : Type 0} (F : Form A) where
  pub whole_read_back : (a : A) → F.ok a → whole F (F.put a) ≡ some a
  unfolding whole bind ended
  whole_read_back a h = rw (← append-nil (F.put a), F.read_back a [] h)

  pub whole-was-written : (s : List ℕ) (a : A) → Bytes s → whole F s ≡ some a → F.ok a × (s ≡ F.put a)
  unfolding whole
  whole-was-written s a h e =
      let (u, eu, e₂) = bind-some _ _ _ e in
      let (fo, fs, fb) = F.was-written s u.0 u.1 h eu in
      last u.0 u.1 e₂ fo fs
    where
      last : (b : A) (r : List ℕ) → ended F b r ≡ some a → F.ok b → s ≡ F.put b ++ r → F.ok a × (s ≡ F.put a)
      last b [] q o p = let z : b ≡ a = unfold ended in cc in (subst F.ok z o, p ∙ (append-nil (F.put b) ∙ ap F.put z))
      last b (x ∷ r) q o p = absurd (some≢none a (sym (unfold ended in q)))
