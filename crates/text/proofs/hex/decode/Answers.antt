-- `text::hex::decode` meets its contract.
-- Assumes nothing.
use Rattle.std.proofs.Common.{refl, sym, ap, ◌∙◌, Err}
use Rattle.text.specs.declared.hex.DecodeError.TheVariants.{BadDigit}
use Rattle.text.specs.Hex.{is_bad, decoded_in}
use Rattle.text.specs.laws.HexCases.{decode_bad, decode_odd, decode-long, decode-bytes}
use Rattle.text.specs.laws.PlaceLaws.{place_found, place_missed}
use Rattle.text.proofs.hex.decode.Goals as goal

pub returns-in-Some : goal.returns-in-Some
unfolding decoded_in
returns-in-Some c =
    let s = c.args.text.now in
    let p = place_found is_bad s c.in-Some.at (sym c.first_bad.ensures ∙ c.in-Some.is) in
    record {
      answer = ap (λ i. Err (BadDigit i)) (sym p.0) ∙ decode_bad s _ (rw p.0 p.1);
      left = refl;
    }

pub returns-then-text-eq1 : goal.returns-then-text-eq1
unfolding decoded_in
returns-then-text-eq1 c =
    let good = place_missed is_bad c.args.text.now (sym c.first_bad.ensures ∙ c.in_default.is) in
    record { answer = decode_odd _ _ good c.if-text-eq1.true; left = refl }

pub returns-then-out-n : goal.returns-then-out-n
unfolding decoded_in
returns-then-out-n c =
    let good = place_missed is_bad c.args.text.now (sym c.first_bad.ensures ∙ c.in_default.is) in
    record { answer = decode-long _ _ good c.if-text-eq1.false c.if-out-n.true; left = refl }

pub returns : goal.returns
unfolding decoded_in
returns c =
    let good = place_missed is_bad c.args.text.now (sym c.first_bad.ensures ∙ c.in_default.is) in
    record { answer = decode-bytes _ _ good c.if-text-eq1.false c.if-out-n.false; left = c.fill.ensures }
