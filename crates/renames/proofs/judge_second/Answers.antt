-- `renames::judge_second` meets its contract. Assumes nothing.
use native.Mathlib.Omega.{arith}
use Prim.Native.Nat.{ℕ, ◌-◌, ◌≤◌}
use mathlib.Core.List.{List}
use mathlib.Core.Path.{◌≡◌, sym, ap, subst, ◌∙◌}
use lib.ListN.{length, take, drop, length-drop}
use lib.Seq.{take_all}
use Rattle.std.specs.Prelude.{Ok}
use Rattle.refusals.specs.laws.NumberLaws.{passed_on}
use Rattle.filesystem.specs.Tables.{NAME_BYTES, PATH_BYTES}
use Rattle.filesystem.specs.Image.{length_in}
use Rattle.memory.specs.Layout.{mem_of}
use Rattle.tables.specs.laws.RowsInUse.{count-nodes}
use Rattle.path_calls.specs.laws.Rows.{holds_front}
use Rattle.renames.specs.Judged.{name_own}
use Rattle.renames.specs.laws.WalkLaws.{second_stops, second_root, second_goes, name-short, folder, path_fits}
use Rattle.renames.specs.laws.WalkLaws.{root_refuses}
use borrow.Author.Rules.{rules}
use Rattle.renames.proofs.judge_second.Goals as goal

pub slice_bounds-name-count : goal.slice_bounds-name-count
slice_bounds-name-count c =
    let a = c.args in
    (holds_front a.m.now a.n a.second.now (omega arith) (omega arith) _ _ _
    c.in_ok-place.ensures
    (ap Ok c.in-Some.is)).0.start_within

pub slice_bounds-name-start : goal.slice_bounds-name-start
slice_bounds-name-start c =
    let a = c.args in
    let h = (holds_front a.m.now a.n a.second.now (omega arith) (omega arith) _ _ _
    c.in_ok-place.ensures (ap Ok c.in-Some.is)).0.start_within in
    search rules

pub judge_name-requires : goal.judge_name-requires
judge_name-requires c =
    let a = c.args in
    let s = a.second.now in
    let at = c.in-Some.place.start in
    let (h, l) = holds_front a.m.now a.n s (omega arith) (omega arith) _ _ _
    c.in_ok-place.ensures
    (ap Ok c.in-Some.is) in
    let t : take (length s - at) (drop at s) ≡ drop at s = take_all (length s - at) (drop at s)
    (omega (arith, length-drop at s)) in
    let p = c.requires in (
      p.0,
      p.1,
      l,
      p.2,
      subst (λ (x : List ℕ). length x ≤ NAME_BYTES) (sym t)
          (name-short (take a.n (mem_of a.m.now).nodes) a.k a.from s _ _ h p.3),
      omega arith,
    )

pub returns-in-Some : goal.returns-in-Some
returns-in-Some c =
    let a = c.args in
    let s = a.second.now in
    let ns = take a.n (mem_of a.m.now).nodes in
    let n : length ns ≡ a.n = count-nodes a.m.now a.n (omega arith) in
    let d = c.in-Some.place.parent in
    let at = c.in-Some.place.start in
    let (h, l) = holds_front a.m.now a.n s (omega arith) (omega arith) _ _ _
    c.in_ok-place.ensures
    (ap Ok c.in-Some.is) in
    let t : take (length s - at) (drop at s) ≡ drop at s = take_all (length s - at) (drop at s)
    (omega (arith, length-drop at s)) in
    let p = c.requires in record {
      by_index = λ w sound.
          c.judge_name.ensures.by_index w sound (folder ns a.k a.from s d at (omega arith) h)
          (subst (λ (x : List ℕ). length_in ns d x ≤ PATH_BYTES) (sym t)
          (path_fits ns a.k a.from s w d at sound h p.3))
          ∙ ap (name_own ns a.k a.from d at) t ∙ sym (second_goes ns a.k a.from s d at h);
      fits = λ i j x e.
          let (u, v, y) = c.judge_name.ensures.moves i j x e in (
            omega (arith, p.0),
            omega arith,
            omega (arith, h.start_within),
            subst (λ z. length (drop z s) ≤ NAME_BYTES) (sym y) (name-short ns a.k a.from s d at h p.3),
          );
    }

pub returns-in_err-place : goal.returns-in_err-place
returns-in_err-place c =
    let a = c.args in
    let g = passed_on _ _ c.from_residual.ensures.1 in record {
      by_index = λ w sound. g ∙ sym (second_stops (take a.n (mem_of a.m.now).nodes) a.k a.from a.second.now _
          (sym c.in_err-place.ensures));
      fits = λ i j x e. let q = sym g ∙ e in absurd (let z : ◌≡◌ {A = ℕ} 0 1 = cc in omega arith);
    }

pub returns-in-None : goal.returns-in-None
returns-in-None c =
    let a = c.args in
    let ns = take a.n (mem_of a.m.now).nodes in
    let n : length ns ≡ a.n = count-nodes a.m.now a.n (omega arith) in record {
      by_index = λ w sound.
          c.root_name.ensures
          ∙ sym (second_root ns a.k a.from a.second.now (omega arith) (sym c.in_ok-place.ensures ∙ ap Ok c.in-None.is));
      fits = λ i j x e. absurd (root_refuses a.k i j x (sym c.root_name.ensures ∙ e));
    }
