-- `transcript_lines::read_load` meets its contract. Assumes nothing.
use Rattle.transcript_lines.specs.laws.FieldLaws.{load_refused, digest_refused, load_read}
use Rattle.transcript_lines.proofs.read_load.Goals as goal

pub returns-in_err-decode : goal.returns-in_err-decode
returns-in_err-decode c =
    let f = c.fields.ensures.value in
    let x = c.decode.ensures in
    load_refused _ _ _ _ _ _ f.0 f.1 x.answer x.left _ _ _ c.in_err-decode.was c.from_residual.ensures.1

pub returns-in_err-decode-2 : goal.returns-in_err-decode-2
returns-in_err-decode-2 c =
    let f = c.fields.ensures.value in
    let x = c.decode.ensures in
    let y = c.decode-2.ensures in
    digest_refused _ _ _ _ _ _ f.0 f.1 x.answer x.left _ _ _ c.in_ok-decode.was _ y.answer y.left _ _
    c.in_err-decode-2.was c.from_residual-in_err-decode-2.ensures.1

pub returns : goal.returns
returns c =
    let f = c.fields.ensures.value in
    let x = c.decode.ensures in
    let y = c.decode-2.ensures in
    load_read _ _ _ _ _ _ f.0 f.1 x.answer x.left _ _ _ c.in_ok-decode.was _ y.answer y.left _
    c.in_ok-decode-2.was
