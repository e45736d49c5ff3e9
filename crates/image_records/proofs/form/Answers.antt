-- `image_records::form` meets its contract. Assumes nothing.
use native.Mathlib.Omega.{arith}
use mathlib.Core.Path.{◌≡◌, ap, sym, ◌∙◌}
use Rattle.image_records.specs.Laid.{laid}
use Rattle.image_records.specs.Records.{end_from, records_end, digest_count, marked_from}
use Prim.Native.Nat.{ℕ, ◌+◌, ◌*◌}
use lib.ListN.{length}
use Rattle.image_records.specs.laws.RecordLaws.{formed-short, formed-many, formed_cut, formed-other, formed_unmarked}
use Rattle.image_records.specs.laws.RecordLaws.{formed_yes}
use Rattle.lists.specs.LittleEndian.{decode}
use Rattle.lists.specs.Parts.{part}
use Rattle.image_records.proofs.form.Goals as goal

pub returns-then-len-lt4 : goal.returns-then-len-lt4
returns-then-len-lt4 c = formed-short (laid c.args.layout) c.args.image.now c.if-len-lt4.true

pub returns-then-n-gt-NODES : goal.returns-then-n-gt-NODES
returns-then-n-gt-NODES c = formed-many (laid c.args.layout) c.args.image.now (omega (arith, c.u32_at-n.ensures))

pub returns-in_err-end : goal.returns-in_err-end
returns-in_err-end c =
    let s = c.args.image.now in
    let y = laid c.args.layout in
    let e = ap (end_from y s 4) c.u32_at-n.ensures in
    rw c.from_residual.ensures (formed_cut y s (omega (arith, c.in_err-end.ensures, e)))

pub returns-then-len-end-lt4 : goal.returns-then-len-end-lt4
returns-then-len-end-lt4 c =
    let s = c.args.image.now in
    let y = laid c.args.layout in
    let e = ap (end_from y s 4) c.u32_at-n.ensures in
    formed_cut y s (omega (arith, c.in_ok-end.ensures, e))

pub returns-then-len-end : goal.returns-then-len-end
returns-then-len-end c =
    let s = c.args.image.now in
    let y = laid c.args.layout in
    let g = c.in_ok-end.ensures.0 ∙ ap (end_from y s 4) c.u32_at-n.ensures in
    let d : c.u32_at-k.result ≡ digest_count y s = c.u32_at-k.ensures ∙ ap (λ (e : ℕ). decode (part e 4 s)) g in
    formed-other y s (λ z. c.if-len-end.true (omega arith))

pub returns-then-not-are_marked : goal.returns-then-not-are_marked
returns-then-not-are_marked c =
    let s = c.args.image.now in
    let y = laid c.args.layout in
    formed_unmarked y s (sym (c.are_marked.ensures ∙ ap (marked_from y s 4) c.u32_at-n.ensures)
    ∙ c.if-not-are_marked.true)

pub returns : goal.returns
returns c =
    let s = c.args.image.now in
    let y = laid c.args.layout in
    let g = c.in_ok-end.ensures.0 ∙ ap (end_from y s 4) c.u32_at-n.ensures in
    let d : c.u32_at-k.result ≡ digest_count y s = c.u32_at-k.ensures ∙ ap (λ (e : ℕ). decode (part e 4 s)) g in
    let z : records_end y s + 4 + digest_count y s * 32 ≡ length s = omega (arith, c.if-len-end.false) in
    let t = sym (c.are_marked.ensures ∙ ap (marked_from y s 4) c.u32_at-n.ensures) ∙ c.if-not-are_marked.false in
    (g, formed_yes y s (omega arith) (omega (arith, c.u32_at-n.ensures)) z t)
