-- `text::line::end` meets its contract.
-- Assumes nothing.
use Rattle.std.proofs.Common.{◌-◌, length, drop, sym, ap, ◌∙◌, arith, take_all, length-drop}
use Rattle.std.specs.List.{position}
use Rattle.lists.specs.Search.{place_most}
use Rattle.text.specs.Line.{is_newline}
use Rattle.text.specs.laws.PlaceLaws.{place_found, place_missed}
use Rattle.text.proofs.line.end.Goals as goal

pub returns-in-Some : goal.returns-in-Some
returns-in-Some c =
    let s = c.args.text.now in
    let from = c.args.from in
    let l = length-drop from s in
    let all = take_all (length s - from) (drop from s) (omega arith) in
    let p = place_found is_newline (drop from s) c.in-Some.n
    (ap (position is_newline) (sym all) ∙ sym c.newline_in.ensures ∙ c.in-Some.is) in
    let e = p.0 in
    let h = p.1 in
    record { found = omega arith; after = omega arith; inside = omega arith }

pub returns-in-None : goal.returns-in-None
returns-in-None c =
    let s = c.args.text.now in
    let from = c.args.from in
    let l = length-drop from s in
    let all = take_all (length s - from) (drop from s) (omega arith) in
    let h = place_missed is_newline (drop from s)
    (ap (position is_newline) (sym all) ∙ sym c.newline_in.ensures ∙ c.in-None.is) in
    let m = place_most is_newline (drop from s) in
    record { found = omega arith; after = omega arith; inside = omega arith }
