-- `text::decimal::read` meets its contract. What is left is read on from n.
-- Assumes nothing.
use Rattle.std.proofs.Common.{sym, ◌∙◌, arith, eqb-true}
use Rattle.std.proofs.lemmas.Bool.{eqb-false}
use Rattle.text.specs.laws.DecimalLaws.{read_none, read-start, read-end, read_stop, read_digit}
use Rattle.text.proofs.decimal.read.Goals as goal

pub returns-then-is_empty : goal.returns-then-is_empty
returns-then-is_empty c = sym (read_none _ (eqb-true _ _ (sym c.is_empty.ensures ∙ c.if-is_empty.true)))

pub loop-c-init : goal.loop-c-init
loop-c-init c =
    let some = eqb-false _ _ (sym c.is_empty.ensures ∙ c.if-is_empty.false) in
    (omega arith, read-start _ (omega arith))

pub returns-then-not-is_ascii_digit : goal.returns-then-not-is_ascii_digit
returns-then-not-is_ascii_digit c =
    let l = c.loop-c in
    sym (l.invariant.1 ∙ read_stop l.n c.args.text.now l.c-index (omega arith) _ c.is_ascii_digit.ensures.cases
    c.then-not-is_ascii_digit.either)

pub loop-c-preserved : goal.loop-c-preserved
loop-c-preserved c =
    let l = c.loop-c in
    let d = c.if-not-is_ascii_digit.ensures.cases in (
      omega (arith, d),
      l.invariant.1 ∙ read_digit l.n c.args.text.now l.c-index (omega arith) d.0 d.1 c.if-n-gt99999999.false,
    )

pub returns : goal.returns
returns c = sym (c.loop-c.invariant.1 ∙ read-end _ _ c.loop-c.c-index (omega arith))
