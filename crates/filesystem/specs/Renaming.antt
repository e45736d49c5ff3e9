-- A node with another parent and name: nodes stay sound, and how long their paths become.
-- Assumes nothing.
use Rattle.std.specs.Prelude.{◌≡◌, refl, true, false, List, ℕ, ◌+◌, ◌≤◌, ◌<◌, length}
use Rattle.std.proofs.Common.{ap, sym, ◌∙◌, arith, eq-eqb, le-leb}
use Rattle.std.proofs.Math.Bool.{true≢false}
use Rattle.lists.specs.Equal.{equal_yes, and_both}
use Rattle.lists.specs.Places.{none_place}
use Rattle.filesystem.specs.Tables.{NAME_BYTES, Node, no_node, with_place, is_directory, is_child, node_at}
use Rattle.filesystem.specs.Tables.{find_child, renamed}
use Rattle.filesystem.specs.Paths.{component_form}
use Rattle.filesystem.specs.Image.{path_length, beneath, length_in, too_deep, is_root, in_limits, is_named, sound_nodes}
use Rattle.filesystem.specs.Sound.{Sound, of_limits, to_sound, of_sound, limits_at}
use Rattle.filesystem.specs.Climb.{rooted, path_length_way, not_beneath}
use Rattle.filesystem.specs.SoundLaws.{page_total-set}
use Rattle.filesystem.specs.RenamedWays.{length_moved, moved_other, moved_ind, id_stays, way_away, way_there}
use Rattle.filesystem.specs.RenamedWays.{ways_moved}

-- node k may become `name` in the directory in place d
pub record Movable (ns : List Node) (k d : ℕ) (name : List ℕ) : Type 0 where
  pub known : k < length ns
  pub not_root : 0 < k
  pub folder : is_directory (node_at ns d) ≡ true
  pub not_within : beneath ns k d ≡ false
  pub new-name : length ns ≤ find_child ns (node_at ns d).id name
  pub form : component_form name ≡ true
  pub short : length name ≤ NAME_BYTES
  pub shallow : too_deep ns k d name ≡ false

module _ (w : ℕ) (ns : List Node) (k d : ℕ) (name : List ℕ) (m : Movable ns k d name) (s : Sound w ns) where
  abbrev new : Node
  new = with_place (node_at ns d).id name (node_at ns k)

  abbrev after : List Node
  after = renamed ns k (node_at ns d).id name

  each : (P : ℕ → Node → Type 0) → P k new → ((i : ℕ) → (i ≡ k → ⊥) → P i (node_at ns i)) → (i : ℕ)
      → P i (node_at after i)
  each = moved_ind ns k d name m.known

  child_apart : (i : ℕ) → i < length ns → (node_at ns i).parent ≡ (node_at ns d).id → (node_at ns i).name ≡ name → ⊥
  unfolding node_at find_child
  child_apart i h e f =
      true≢false (sym (and_both _ _ (eq-eqb (node_at ns i).parent (node_at ns d).id e)
      (equal_yes (node_at ns i).name name f))
      ∙ none_place (is_child (node_at ns d).id name) no_node ns i m.new-name h)

  -- the same parent and name
  abbrev Siblings : Node → Node → Type 0
  Siblings x y = (x.parent ≡ y.parent) × (x.name ≡ y.name)

  siblings_moved : (i j : ℕ) → i < length ns → j < length ns → Siblings (node_at after i) (node_at after j) → i ≡ j
  siblings_moved =
      each (λ i x. (j : ℕ) → i < length ns → j < length ns → Siblings x (node_at after j) → i ≡ j)
      (each (λ j y. k < length ns → j < length ns → Siblings new y → k ≡ j) (λ h l e. refl)
      (λ j n h l e. absurd (child_apart j l (sym e.0) (sym e.1))))
      (λ i n. each (λ j y. i < length ns → j < length ns → Siblings (node_at ns i) y → i ≡ j)
      (λ h l e. absurd (child_apart i h e.0 e.1)) (λ j t h l e. s.siblings i j h l e.0 e.1))

  pub sound-moved : Sound w after
  sound-moved =
      let n = length_moved ns k d name m.known in
      let c = s.has-root in
      let b = limits_at w ns s k m.known in
      record {
        has-root = omega arith;
        count = let h = s.count in omega arith;
        root-first = ap is_root (moved_other ns k d name m.known 0 (λ e. let h = m.not_root in omega arith))
            ∙ s.root-first;
        limits = λ i h. each (λ i x. i < length ns → in_limits w x ≡ true)
            (λ h. of_limits w new (record {
              id_some = b.id_some;
              id_fits = b.id_fits;
              mode_fits = b.mode_fits;
              kind_size = b.kind_size;
            })) (λ i e h. s.limits i h) i (omega arith);
        names = λ i l h. each (λ i x. 0 < i → i < length ns → is_named x ≡ true)
            (λ l h. and_both _ _ m.form (le-leb _ _ m.short)) (λ i e l h. s.names i l h) i l (omega arith);
        ids = λ i j h l e. s.ids i j (omega arith) (omega arith)
            (sym (id_stays ns k d name m.known i) ∙ (e ∙ id_stays ns k d name m.known j));
        siblings = λ i j h l e f. siblings_moved i j (omega arith) (omega arith) (e, f);
        ways = λ i h. ways_moved ns k d name m.known w s m.folder m.not_within m.shallow i
            (omega arith);
        pages = unfold renamed in rw (page_total-set ns k new refl) s.pages;
      }

  -- how long the paths are then
  pub path_there : (i : ℕ) → i < length ns → beneath ns k i ≡ true
      → path_length after (node_at after i) + path_length ns (node_at ns k)
      ≡ path_length ns (node_at ns i) + length_in ns d name
  path_there i h e =
      let (u, f) = way_there ns k d name m.known w s m.folder m.not_within i h e in
      ap (λ x. x + path_length ns (node_at ns k))
      (path_length_way after (rooted w after sound-moved) (rw (length_moved ns k d name m.known) h) u) ∙ f

  pub path_elsewhere : (i : ℕ) → i < length ns → beneath ns k i ≡ false
      → path_length after (node_at after i) ≡ path_length ns (node_at ns i)
  path_elsewhere i h e =
      let (v, _) = s.ways i h in
      let (u, f) = way_away ns k d name m.known v (not_beneath ns (rooted w ns s) m.known e) in
      path_length_way after (rooted w after sound-moved) (rw (length_moved ns k d name m.known) h) u
      ∙ (f ∙ sym (path_length_way ns (rooted w ns s) h v))

pub sound-renamed : (w : ℕ) (ns : List Node) (k d : ℕ) (name : List ℕ) → sound_nodes w ns ≡ true → Movable ns k d name
    → sound_nodes w (renamed ns k (node_at ns d).id name) ≡ true
sound-renamed w ns k d name e m = of_sound w _ (sound-moved w ns k d name m (to_sound w ns e))
