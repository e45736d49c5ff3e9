-- `image_reader::is_sound` meets its contract. Assumes nothing.
use native.Mathlib.Omega.{arith}
use mathlib.Core.Bool.{true, false}
use mathlib.Core.Path.{◌≡◌, ap, sym, ◌∙◌}
use Prim.Native.Nat.{ℕ}
use lib.Dec.{eqb}
use borrow.Author.Tests.{eq-eqb, ne_eqb}
use Rattle.lists.specs.All.{Bytes}
use Rattle.lists.specs.Equal.{and-true, and-false}
use Rattle.lists.specs.EqualLaws.{bytes_of}
use Rattle.lists.specs.LittleEndian.{decode}
use Rattle.lists.specs.Parts.{part}
use Rattle.filesystem.specs.Image.{sound_nodes}
use Rattle.image_records.specs.Laid.{laid}
use Rattle.filesystem.specs.Sound.{unsound}
use Rattle.filesystem.specs.Tables.{page_total}
use Rattle.image_records.specs.Records.{nodes_from, end_from, image_nodes, digest_count}
use Rattle.image_records.specs.laws.ParseLaws.{to_formed, parsed_formed, unparsed}
use Rattle.image_reader.proofs.is_sound.Goals as goal

pub returns-in_default : goal.returns-in_default
returns-in_default c =
    let a = c.args in
    let s = a.image.now in
    let y = laid a.layout in
    let b : Bytes s = bytes_of s (λ k. omega (arith, c.type_inv.image k)) in
    sym (unparsed y s b (c.in_default.ensures))

pub u32_at-n-requires : goal.u32_at-n-requires
u32_at-n-requires c =
    let a = c.args in
    let f = to_formed (laid a.layout) a.image.now c.in-Some.ensures.1 in
    omega (arith, f.four)

pub page_sum-pages-requires : goal.page_sum-pages-requires
page_sum-pages-requires c =
    let a = c.args in
    let s = a.image.now in
    let y = laid a.layout in
    let f = to_formed y s c.in-Some.ensures.1 in
    let e = c.u32_at-n.ensures in
    (omega (arith, e, f.count), omega (arith, ap (end_from y s 4) e, f.within))

pub u32_at-requires : goal.u32_at-requires
u32_at-requires c =
    let a = c.args in
    let e = c.in-Some.ensures.0 in
    let f = to_formed (laid a.layout) a.image.now c.in-Some.ensures.1 in
    omega (arith, e, f.within)

pub returns-then-u32_at-pages : goal.returns-then-u32_at-pages
returns-then-u32_at-pages c =
    let a = c.args in
    let s = a.image.now in
    let y = laid a.layout in
    let e = c.in-Some.ensures.0 in
    let f = to_formed y s c.in-Some.ensures.1 in
    let p = c.page_sum-pages.ensures ∙ ap (λ (n : ℕ). page_total (nodes_from y s 4 n))
    c.u32_at-n.ensures in
    let d : c.u32_at.result ≡ digest_count y s = c.u32_at.ensures
    ∙ ap (λ (i : ℕ). decode (part i 4 s)) e in
    let n : eqb (digest_count y s) (page_total (image_nodes y s)) ≡ false = ne_eqb _ _
    (λ q. c.if-u32_at-pages.true (d ∙ q ∙ sym p)) in
    sym (parsed_formed y s f ∙ rw n (and-false (sound_nodes a.layout.id_bytes (image_nodes y s))))

pub returns-then-pages-gt-PAGES : goal.returns-then-pages-gt-PAGES
returns-then-pages-gt-PAGES c =
    let a = c.args in
    let s = a.image.now in
    let y = laid a.layout in
    let e = c.in-Some.ensures.0 in
    let f = to_formed y s c.in-Some.ensures.1 in
    let p = c.page_sum-pages.ensures
    ∙ ap (λ (n : ℕ). page_total (nodes_from y s 4 n)) c.u32_at-n.ensures in
    let u : sound_nodes a.layout.id_bytes (image_nodes y s) ≡ false =
    unsound a.layout.id_bytes _ (λ t. let z = t.pages in omega (arith, p)) in
    sym (parsed_formed y s f ∙ rw u)

pub are_sound-requires : goal.are_sound-requires
are_sound-requires c =
    let a = c.args in
    let s = a.image.now in
    let y = laid a.layout in
    let f = to_formed y s c.in-Some.ensures.1 in
    let e = c.u32_at-n.ensures in (
      omega (arith, e, f.count),
      omega
          (arith, ap (end_from y s 4) e, f.within),
      omega (arith, c.page_sum-pages.ensures),
    )

pub returns : goal.returns
returns c =
    let a = c.args in
    let s = a.image.now in
    let y = laid a.layout in
    let e = c.in-Some.ensures.0 in
    let f = to_formed y s c.in-Some.ensures.1 in
    let k = c.u32_at-n.ensures in
    let p = c.page_sum-pages.ensures ∙ ap (λ (n : ℕ). page_total (nodes_from y s 4 n)) k in
    let d : c.u32_at.result ≡ digest_count y s = c.u32_at.ensures
    ∙ ap (λ (i : ℕ). decode (part i 4 s)) e in
    let t : eqb (digest_count y s) (page_total (image_nodes y s)) ≡ true = eq-eqb _ _
    (sym d ∙ c.if-u32_at-pages.false ∙ p) in
    c.are_sound.ensures ∙ ap (λ (n : ℕ). sound_nodes a.layout.id_bytes (nodes_from y s 4 n)) k
    ∙ sym (parsed_formed y s f ∙ rw t (and-true (sound_nodes a.layout.id_bytes (image_nodes y s))))
