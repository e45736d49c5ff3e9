-- `answers::AnswerLine::put_digest` meets its contract. Assumes nothing.
use Rattle.std.specs.Prelude.{◌≡◌, List, [], ◌∷◌, ℕ, ◌*◌, length, take}
use Rattle.std.proofs.Common.{ap, ◌∙◌, arith, rules}
use Rattle.std.proofs.Math.Path.{ap₂}
use Rattle.text.specs.Ascii.{ascii}
use Rattle.transcript_lines.specs.Said.{behind, with_digest}
use Rattle.transcript_lines.specs.laws.SaidLaws.{without_end, digits_whole}
use Rattle.transcript_lines.proofs.answers.AnswerLine.put_digest.Goals as goal

pub returns : goal.returns
unfolding with_digest ascii
returns c =
    let s = c.self.inside in
    let n : length c.args.digest ≡ 32 = search rules in
    let room : 64 ≡ 2 * length c.args.digest = omega arith in
    let digits = digits_whole c.args.digest _ _ room c.encode.ensures in
    let front = ap (λ (k : ℕ). take k s.bytes) c.saturating_sub-self-inside.ensures
    ∙ without_end s.bytes _ [] s.length c.self.told c.self.invariant c.self.view_is in
    c.put-3.ensures ∙ ap (λ (z : List ℕ). behind z (10 ∷ []))
    (c.put-2.ensures ∙ ap₂ behind (c.put.ensures ∙ ap (λ (z : List ℕ). behind z (32 ∷ [])) front) digits)
