-- `image_writer::write_image` meets its contract. Assumes nothing.
use native.Mathlib.Omega.{arith}
use Rattle.filesystem.specs.Image.{image_length}
use Rattle.image_records.specs.Laid.{laid}
use Rattle.image_writer.specs.laws.Written.{image-written}
use borrow.Author.Rules.{rules}
use Rattle.image_writer.proofs.write_image.Goals as goal

pub put_number-requires : goal.put_number-requires
unfolding image_length
put_number-requires c = omega arith

pub write_records-behind-requires : goal.write_records-behind-requires
unfolding image_length
write_records-behind-requires c = search rules

pub put_number-requires-2 : goal.put_number-requires-2
unfolding image_length
put_number-requires-2 c =
    omega (arith, c.write_records-behind.ensures.value, c.requires)

pub overflow_add-start : goal.overflow_add-start
unfolding image_length
overflow_add-start c = omega arith

pub put-requires : goal.put-requires
unfolding image_length
put-requires c =
    omega (arith, c.digests.ensures.1, c.first_page-pages.ensures.0, c.write_records-behind.ensures.value, c.requires)

pub overflow_add-result : goal.overflow_add-result
unfolding image_length
overflow_add-result c = omega arith

pub returns : goal.returns
unfolding image_length
returns c =
    let a = c.args in
    let w = image-written (laid a.layout) a.n a.out.now a.m.now a.at c.write_records-behind.result
    c.first_page-pages.result c.digests.result.now
    (omega arith) (omega arith) (omega arith) c.write_records-behind.ensures.value c.first_page-pages.ensures.0
    c.digests.ensures.0 c.digests.ensures.1
    c.put_number.ensures c.write_records-behind.ensures.out_after c.put_number-2.ensures c.put.ensures in
    record { out_after = w.0; value = w.1 }
