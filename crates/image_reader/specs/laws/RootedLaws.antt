-- Ways to the root, and all that makes the nodes sound.
-- Assumes nothing.
use Rattle.std.specs.Prelude.{◌≡◌, refl, Bool, true, false, List, ℕ, zero, suc, ◌≤◌, ◌<◌, length}
use Rattle.std.proofs.Common.{ap, sym, ◌∙◌, subst, true≢false, arith, eqb-true, leb-true}
use Rattle.lists.specs.Equal.{and_snd}
use Rattle.filesystem.specs.Tables.{PAGES, NAME_BYTES, PATH_BYTES, Node, node_at, page_total}
use Rattle.filesystem.specs.Image.{Layout, is_root, in_limits, is_named, sound_nodes}
use Rattle.filesystem.specs.Paths.{component_form}
use Rattle.filesystem.specs.Sound.{Sound, of_sound, unsound, ground, has_parent_lem}
use Rattle.filesystem.specs.Ways.{Way, bytes}
use Rattle.links.specs.Climbs.{Leads, Reach}
use Rattle.links.specs.Parents.{Placed}
use Rattle.links.specs.laws.ParentLaws.{to_way, to_lead}
use Rattle.image_records.specs.Records.{record_at, nodes_from}
use Rattle.image_records.specs.laws.RecordLaws.{length_from, in_place, end-last}
use Rattle.image_reader.specs.Judged.{node_on, Located, Judges, Apart, Rooted}
use Rattle.image_reader.specs.laws.PlaceLaws.{located_node}

pub short-name : (n : Node) → is_named n ≡ true → length n.name ≤ NAME_BYTES
short-name n e = leb-true _ _ (and_snd (component_form n.name) _ e)

module _ {y : Layout} {s starts : List ℕ} {n : ℕ} (d : Located y s starts n) where
  abbrev ns : List Node
  ns = nodes_from y s 4 n

  abbrev node : ℕ → Node
  node = node_on y s starts

  long : length ns ≡ n
  long = length_from y s 4 n

  -- a record that has no directory for its parent
  pub not_placed : Sound y.id_bytes ns → (k : ℕ) → 0 < k → k < n
      → ((j : ℕ) → j < n → (node j).id ≡ (node k).parent → (node j).kind ≡ 2 → ⊥) → ⊥
  not_placed t k p h f =
      let (j, b, q) = has_parent_lem y.id_bytes ns t k p (omega (arith, long)) in
      let m : j < n = omega (arith, long) in
      f j m (ap (λ x. x.id) (located_node d j m) ∙ (q.is_parent ∙ ap (λ x. x.parent) (sym (located_node d k h))))
      (ap (λ x. x.kind) (located_node d j m) ∙ eqb-true _ 2 q.is_directory_lem)

  module _ {to far : List ℕ} (p : Placed node to far n n) where
    pub reach_rooted : (r : Bool) → Reach to far n r → Judges r y.id_bytes ns (Rooted ns)
    reach_rooted r x = (
      λ e k h. way k (omega (arith, long)) (x.0 e k (omega (arith, long))),
      λ e t. let (k, h, f) = x.1 e in let (v, b) = t.ways k (omega (arith, long)) in let z = f (bytes v)
          (to_lead long (located_node d) p (ground y.id_bytes ns t) v) in omega arith,
    )
      where
        way : (k : ℕ) → k < n → (b : ℕ) × (b ≤ PATH_BYTES) × Leads to far k b → (v : Way ns 0 k)
            × (bytes v ≤ PATH_BYTES)
        way k h (b, l, u) = let (v, e) = to_way long (located_node d) p h u in (v, omega arith)

  -- all of it together
  pub sound-judged : 0 < n → is_root (record_at y s 4) ≡ true → page_total ns ≤ PAGES → Apart y.id_bytes node n
      → Rooted ns → sound_nodes y.id_bytes ns ≡ true
  sound-judged h e p a o =
      of_sound y.id_bytes ns (record {
        has-root = omega (arith, long);
        count = omega (arith, long, d.few);
        root-first = ap is_root (in_place y s 4 n 0 h ∙ ap (record_at y s) (end-last y s 4)) ∙ e;
        limits = λ k l. subst (λ x. in_limits y.id_bytes x ≡ true) (located_node d k (omega (arith, long)))
            (a.limits k (omega (arith, long)));
        names = λ k q l. subst (λ x. is_named x ≡ true) (located_node d k (omega (arith, long)))
            (a.names k q (omega (arith, long)));
        ids = λ i j l m u. a.ids i j (omega (arith, long)) (omega (arith, long))
            (same (λ x. x.id) i j (omega (arith, long)) (omega (arith, long)) u);
        siblings = λ i j l m u v.
            a.siblings i j (omega (arith, long)) (omega (arith, long)) (
              same (λ x. x.parent) i j (omega (arith, long)) (omega (arith, long)) u,
              same (λ x. x.name) i j
                  (omega (arith, long)) (omega (arith, long)) v,
            );
        ways = o;
        pages = p;
      })
    where
      same : {A : Type 0} (f : Node → A) (i j : ℕ) → i < n → j < n → f (node_at ns i) ≡ f (node_at ns j)
          → f (node i) ≡ f (node j)
      same f i j h l u = ap f (located_node d i h) ∙ (u ∙ ap f (sym (located_node d j l)))

pub judged : (w : ℕ) (ns : List Node) (r : Bool) {F : Type 0} → Judges r w ns F → (F → sound_nodes w ns ≡ true)
    → r ≡ sound_nodes w ns
judged w ns true j f = sym (f (j.0 refl))
judged w ns false j f = sym (unsound w ns (j.1 refl))

-- The first tests, case by case.
pub some : (n : ℕ) → (n ≡ 0 → ⊥) → 0 < n
some zero d = absurd (d refl)
some (suc n) d = omega arith

module _ (y : Layout) (s : List ℕ) (n : ℕ) where
  pub no-nodes : n ≡ 0 → false ≡ sound_nodes y.id_bytes (nodes_from y s 4 n)
  unfolding sound_nodes nodes_from
  no-nodes e = rw e

  pub not_root : 0 < n → is_root (record_at y s 4) ≡ false → false ≡ sound_nodes y.id_bytes (nodes_from y s 4 n)
  not_root h e =
      sym (unsound y.id_bytes _ (λ t. true≢false (sym t.root-first
      ∙ (ap is_root (in_place y s 4 n 0 h ∙ ap (record_at y s) (end-last y s 4)) ∙ e))))

  pub not_limits : 0 < n → in_limits y.id_bytes (record_at y s 4) ≡ false
      → false ≡ sound_nodes y.id_bytes (nodes_from y s 4 n)
  not_limits h e =
      sym (unsound y.id_bytes _ (λ t.
      true≢false (sym (t.limits 0 t.has-root) ∙
      (ap (in_limits y.id_bytes) (in_place y s 4 n 0 h ∙ ap (record_at y s) (end-last y s 4)) ∙ e))))
