-- `image_writer::write_record` meets its contract. Assumes nothing.
use native.Mathlib.Omega.{arith}
use mathlib.Core.Path.{ap}
use lib.ListN.{length}
use Rattle.filesystem.specs.Tables.{node_at}
use Rattle.memory.specs.Layout.{mem_of}
use Rattle.image_records.specs.Laid.{laid}
use Rattle.image_writer.specs.laws.Written.{record_made}
use Rattle.image_writer.proofs.write_record.Goals as goal

pub write_middle-requires : goal.write_middle-requires
write_middle-requires c = omega (arith, c.front_length.ensures, c.requires)

pub put-requires : goal.put-requires
put-requires c = omega (arith, c.front_length.ensures.0, ap length c.node_name-name.ensures.0, c.requires)

pub returns : goal.returns
returns c =
    let a = c.args in
    let y = laid a.layout in
    let x = node_at (mem_of a.m.now).nodes a.i in
    let n = ap length c.node_name-name.ensures.0 in
    let k = c.front_length.ensures.0 in record {
      out_after = record_made y x a.out.now a.at _ _ (omega arith) (omega arith)
          (omega (arith, k)) c.write_ids.ensures c.write_middle.ensures c.put.ensures
          c.node_id.ensures c.node_parent.ensures c.node_kind-kind.ensures c.node_mode-mode.ensures
          c.node_size-size.ensures n c.node_name-name.ensures.0;
      value = omega (arith, n, k);
    }
