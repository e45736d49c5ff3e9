-- `image_records::is_named` meets its contract. Assumes nothing.
use mathlib.Core.Path.{◌≡◌, sym, ◌∙◌}
use Rattle.image_records.specs.Records.{plain_byte}
use Rattle.paths.specs.PathForms.{is_name}
use mathlib.Core.Bool.{true, false}
use borrow.Author.Tests.{le-leb}
use lib.ListN.{length}
use Rattle.lists.specs.Search.{every}
use Rattle.lists.specs.Equal.{and-true}
use Rattle.image_records.specs.laws.TestLaws.{component_name}
use Rattle.image_records.proofs.is_named.Goals as goal

pub returns-then-not-is_name : goal.returns-then-not-is_name
returns-then-not-is_name c = let n = c.args.name.now in
    let e : is_name n ≡ false = sym c.is_name.ensures ∙ c.if-not-is_name.true in
    rw (component_name n, e)

pub returns : goal.returns
returns c = let n = c.args.name.now in
    let e : is_name n ≡ true = sym c.is_name.ensures ∙ c.if-not-is_name.false in
    rw (component_name n, e, le-leb (length n) 32 c.if-name-gt-NAME_BYTES.false) (c.is_plain.ensures
    ∙ sym (and-true (every plain_byte n)))
