-- `image_loader::load_image` meets its contract. Assumes nothing.
use native.Mathlib.Omega.{arith}
use mathlib.Core.Path.{◌≡◌, ap, ◌∙◌}
use Prim.Native.Nat.{ℕ}
use Rattle.lists.specs.EqualLaws.{bytes_of}
use Rattle.lists.specs.LittleEndian.{decode}
use Rattle.lists.specs.Parts.{overwrite, part}
use Rattle.filesystem.specs.Image.{sound_nodes}
use Rattle.image_records.specs.Laid.{laid}
use Rattle.memory.specs.Layout.{mem_of, with_nodes}
use Rattle.image_records.specs.Records.{nodes_from, end_from, records_end}
use Rattle.image_loader.specs.laws.LoadedLaws.{to_sound_image, both-loaded}
use Rattle.image_loader.proofs.load_image.Goals as goal

pub u32_at-n-requires : goal.u32_at-n-requires
u32_at-n-requires c =
    let a = c.args in
    let s = a.image.now in
    let y = laid a.layout in
    let i = to_sound_image y s (bytes_of s (λ k. omega (arith, c.type_inv.image k)))
    c.requires.0 in
    omega (arith, i.form.four)

pub load_records-end-requires : goal.load_records-end-requires
load_records-end-requires c =
    let s = c.args.image.now in
    let y = laid c.args.layout in
    let i = to_sound_image y s
    (bytes_of s (λ k. omega (arith, c.type_inv.image k))) c.requires.0 in
    let f = i.form in
    let q = c.u32_at-n.ensures in
    let e = ap (end_from y s 4) q in (
      ap (λ (n : ℕ). sound_nodes c.args.layout.id_bytes (nodes_from y s 4 n)) q ∙ i.nodes,
      omega (arith, q, f.count),
      omega (arith, e, f.within),
      omega (arith, c.requires.1),
    )

pub load_digests-requires : goal.load_digests-requires
load_digests-requires c =
    let load-records = c.load_records-end in
    let u32-at = c.u32_at-n in
    let s = c.args.image.now in
    let y = laid c.args.layout in
    let i = to_sound_image y s (bytes_of s (λ k. omega (arith, c.type_inv.image k))) c.requires.0 in
    let r : load-records.result ≡ records_end y s = load-records.ensures.value
    ∙ ap (end_from y s 4) u32-at.ensures in
    let d = ap (λ (e : ℕ). decode (part e 4 s)) r in (
      omega (arith, r, d, i.form.ends),
      omega (arith, d, i.few),
      omega (arith, load-records.ensures.becomes.1, c.requires.1),
    )

pub returns : goal.returns
returns c =
    let load-records = c.load_records-end in
    let s = c.args.image.now in
    let y = laid c.args.layout in
    let i = to_sound_image y s (bytes_of s (λ k. omega (arith, c.type_inv.image k))) c.requires.0 in
    let q = c.u32_at-n.ensures in
    let m = c.args.m.now in
    let x = load-records.ensures.becomes.0
    ∙ ap (λ (n : ℕ). with_nodes (overwrite (mem_of m).nodes 0 (nodes_from y s 4 n)) (mem_of m)) q in record {
      loaded = both-loaded y s m _ _ _ _ i q (load-records.ensures.value ∙ ap (end_from y s 4) q) x
          c.load_digests.ensures.0;
      keeps_length = c.load_digests.ensures.1 ∙ load-records.ensures.becomes.1;
    }
