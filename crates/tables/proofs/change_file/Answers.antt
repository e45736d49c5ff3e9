-- `tables::change_file` meets its contract. Assumes nothing.
use native.Mathlib.Omega.{arith}
use mathlib.Core.Path.{refl, ap, sym, ◌∙◌}
use mathlib.Core.Bool.{true≢false}
use Rattle.tables.specs.View.{view_of, changed_rows, staged_digests}
use Rattle.tables.specs.laws.ChangeLaws.{change_room, view_change}
use Rattle.tables.proofs.change_file.Goals as goal

pub returns-then-not-has_room : goal.returns-then-not-has_room
returns-then-not-has_room c =
    let a = c.args in record {
      value = λ g. absurd (true≢false (sym (c.has_room.ensures.1 (change_room a.m.now c.rows_of-s.ensures.0 g))
          ∙ c.if-not-has_room.true));
      m_unchanged = λ _. refl;
      keeps_length = refl;
    }

pub returns : goal.returns
unfolding changed_rows staged_digests
returns c =
    let a = c.args in record {
      value = λ g. (
        refl,
        λ blank o. ap (view_of a.n o) (c.set_size.ensures.0
            ∙ rw (c.keep_digests.ensures.0, c.move_digests.ensures.0))
            ∙ view_change a.m.now c.rows_of-s.ensures.0 g blank o,
      );
      m_unchanged = λ x. absurd (true≢false x);
      keeps_length = omega (
        arith,
        c.set_size.ensures.1,
        c.keep_digests.ensures.1,
        c.move_digests.ensures.1,
      );
    }
