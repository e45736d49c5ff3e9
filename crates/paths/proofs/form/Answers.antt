-- `paths::form` meets its contract. Assumes nothing.
use native.Mathlib.Omega.{arith}
use mathlib.Core.Path.{sym, ◌∙◌}
use Rattle.paths.specs.laws.PathFormLaws.{form-empty, form-no-slash, form-root, form_parts}
use Rattle.paths.proofs.form.Goals as goal

pub returns-then-n-eq0 : goal.returns-then-n-eq0
returns-then-n-eq0 c = sym (form-empty c.args.path.now c.if-n-eq0.true)

pub returns-then-path-ne47 : goal.returns-then-path-ne47
returns-then-path-ne47 c = sym (form-no-slash c.args.path.now c.if-path-ne47.true)

pub returns-then-n-eq1 : goal.returns-then-n-eq1
returns-then-n-eq1 c = sym (form-root c.args.path.now c.if-n-eq1.true
    c.if-path-ne47.false)

pub returns : goal.returns
returns c =
    let a = c.args in
    c.parts_form.ensures ∙ sym (form_parts a.path.now (omega arith) c.if-path-ne47.false)
