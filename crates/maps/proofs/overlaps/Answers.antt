-- `maps::overlaps` meets its contract. Assumes nothing.
use mathlib.Core.Path.{sym, ◌∙◌}
use Rattle.rules.specs.MapRules.{overlaps}
use Rattle.maps.proofs.overlaps.Goals as goal

pub returns-then-is_before_end : goal.returns-then-is_before_end
unfolding overlaps
returns-then-is_before_end c =
    c.is_before_end-then-is_before_end.ensures
    ∙ sym (rw (
      sym c.map_address-first.ensures,
      sym c.map_size.ensures,
      sym c.is_before_end.ensures
          ∙ c.if-is_before_end.true,
    ))

pub returns : goal.returns
unfolding overlaps
returns c =
    sym (rw (sym c.map_address-first.ensures, sym c.map_size.ensures, sym c.is_before_end.ensures ∙ c.if-is_before_end.false))
