-- `tables::grow_file` meets its contract. Assumes nothing.
use native.Mathlib.Omega.{arith}
use mathlib.Core.Path.{refl, ap, sym, ◌∙◌}
use mathlib.Core.Bool.{true≢false}
use Prim.Native.Nat.{ℕ}
use mathlib.Core.List.{List, []}
use Rattle.digest.specs.Sha256.{sha256}
use Rattle.filesystem.specs.Tables.{pages_for}
use Rattle.zero_page.specs.ZeroPage.{zero_page}
use Rattle.memory.specs.Layout.{mem_of}
use Rattle.tables.specs.View.{view_of, with_change, changed_rows}
use Rattle.tables.specs.laws.ChangeLaws.{grow_room, view_grow, view_within}
use Rattle.tables.proofs.grow_file.Goals as goal

pub returns-then-pages_for : goal.returns-then-pages_for
returns-then-pages_for c =
    let a = c.args in
    let same = sym c.pages_for.ensures.0 ∙ c.if-pages_for.true ∙ c.pages_for-2.ensures.0
    ∙ ap pages_for c.node_size.ensures in record {
      value = λ g. (
        refl,
        λ o. ap (view_of a.n o) c.set_size.ensures.0
            ∙ view_within a.m.now a.n a.k a.size (omega (arith, c.if-n-k.false)) c.requires.0 same g
            (sha256 zero_page) o,
      );
      m_unchanged = λ x. absurd (true≢false x);
      keeps_length = c.set_size.ensures.1;
    }

pub returns-then-not-has_room : goal.returns-then-not-has_room
returns-then-not-has_room c =
    let a = c.args in record {
      value = λ g. absurd (true≢false (sym (c.has_room.ensures.1 (grow_room a.m.now c.rows_of-s.ensures.0 g))
          ∙ c.if-not-has_room.true));
      m_unchanged = λ _. refl;
      keeps_length = refl;
    }

pub returns : goal.returns
unfolding changed_rows
returns c =
    let a = c.args in record {
      value = λ g. (
        refl,
        λ o. ap (view_of a.n o) (c.set_size-2.ensures.0
            ∙ rw (c.put_rows.ensures.0, c.move_digests.ensures.0))
            ∙ view_grow a.m.now c.rows_of-s.ensures.0 g _ o
            ∙ ap (λ (x : List ℕ). with_change x a.k a.size 0 [] (view_of a.n o (mem_of a.m.now)))
            c.digest-blank.ensures,
      );
      m_unchanged = λ x. absurd (true≢false x);
      keeps_length = omega (
        arith,
        c.set_size-2.ensures.1,
        c.put_rows.ensures.1,
        c.move_digests.ensures.1,
      );
    }
