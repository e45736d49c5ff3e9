-- `maps::judge_map` meets its contract. Assumes nothing.
use native.Mathlib.Omega.{arith}
use mathlib.Core.Path.{◌≡◌, ap, sym, ◌∙◌}
use Prim.Native.Nat.{ℕ, ◌-◌}
use lib.Dec.{eqb}
use lib.ListN.{length, take, drop, length-drop}
use lib.Seq.{take_all}
use Rattle.lists.specs.Parts.{part}
use Rattle.lists.specs.Search.{any, every}
use Rattle.memory.specs.Layout.{mem_of}
use Rattle.rules.specs.MapRules.{overlaps}
use Rattle.maps.specs.Judged.{new_map, is_misplaced}
use Rattle.maps.specs.laws.JudgedLaws.{reason_length, reason_address, reason_overlap, reason_dirty, reason_none}
use Rattle.maps.proofs.judge_map.Goals as goal

pub returns-then-reply-size : goal.returns-then-reply-size
returns-then-reply-size c =
    let a = c.args in record {
      value = reason_length (take a.n (mem_of a.m.now).maps) a.size a.reply.now c.if-reply-size.true;
      reply_len = tt;
    }

pub returns-then-is_misplaced : goal.returns-then-is_misplaced
unfolding part
returns-then-is_misplaced c =
    let a = c.args in
    let x = ap (λ (i : ℕ). is_misplaced i a.size) (sym c.u64_at-address.ensures) in record {
      value = reason_address (take a.n (mem_of a.m.now).maps) a.size a.reply.now c.if-reply-size.false
          (x ∙ sym c.is_misplaced.ensures ∙ c.if-is_misplaced.true);
      reply_len = tt;
    }

pub returns-then-any_overlaps : goal.returns-then-any_overlaps
unfolding part
returns-then-any_overlaps c =
    let a = c.args in
    let ms = take a.n (mem_of a.m.now).maps in
    let x = ap (λ (i : ℕ). is_misplaced i a.size) (sym c.u64_at-address.ensures) in
    let y = ap (λ (i : ℕ). any (overlaps (new_map i a.size)) ms) (sym c.u64_at-address.ensures) in record {
      value = reason_overlap ms a.size a.reply.now c.if-reply-size.false
          (x ∙ sym c.is_misplaced.ensures ∙ c.if-is_misplaced.false)
          (y ∙ sym c.any_overlaps.ensures ∙ c.if-any_overlaps.true);
      reply_len = tt;
    }

pub returns-then-is_zero : goal.returns-then-is_zero
unfolding part
returns-then-is_zero c =
    let a = c.args in
    let ms = take a.n (mem_of a.m.now).maps in
    let r = a.reply.now in
    let x = ap (λ (i : ℕ). is_misplaced i a.size) (sym c.u64_at-address.ensures) in
    let y = ap (λ (i : ℕ). any (overlaps (new_map i a.size)) ms) (sym c.u64_at-address.ensures) in
    let z : take (length r - 8) (drop 8 r) ≡ drop 8 r = take_all (length r - 8) (drop 8 r)
    (omega (arith, length-drop 8 r)) in record {
      value = reason_none ms a.size r c.if-reply-size.false (x ∙ sym c.is_misplaced.ensures ∙ c.if-is_misplaced.false)
          (y ∙ sym c.any_overlaps.ensures ∙ c.if-any_overlaps.false)
          (ap (every (eqb 0)) (sym z) ∙ sym c.is_zero.ensures ∙ c.if-is_zero.true);
      reply_len = c.if-reply-size.false;
    }

pub returns : goal.returns
unfolding part
returns c =
    let a = c.args in
    let ms = take a.n (mem_of a.m.now).maps in
    let r = a.reply.now in
    let x = ap (λ (i : ℕ). is_misplaced i a.size) (sym c.u64_at-address.ensures) in
    let y = ap (λ (i : ℕ). any (overlaps (new_map i a.size)) ms) (sym c.u64_at-address.ensures) in
    let z : take (length r - 8) (drop 8 r) ≡ drop 8 r = take_all (length r - 8) (drop 8 r)
    (omega (arith, length-drop 8 r)) in record {
      value = reason_dirty ms a.size r c.if-reply-size.false (x ∙ sym c.is_misplaced.ensures ∙ c.if-is_misplaced.false)
          (y ∙ sym c.any_overlaps.ensures ∙ c.if-any_overlaps.false)
          (ap (every (eqb 0)) (sym z) ∙ sym c.is_zero.ensures ∙ c.if-is_zero.false);
      reply_len = tt;
    }
