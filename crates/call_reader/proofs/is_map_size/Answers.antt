-- `call_reader::is_map_size` meets its contract. Assumes nothing.
use Rattle.std.proofs.Common.{rules, arith}
use Rattle.std.proofs.lemmas.Grind.{common_steps}
use Rattle.rules.specs.MapRules.{is_map_size}
use Rattle.call_reader.proofs.is_map_size.Goals as goal

pub returns-then-contains : goal.returns-then-contains
unfolding is_map_size
returns-then-contains c = grind (arith, common_steps)

pub returns-else-contains : goal.returns-else-contains
unfolding is_map_size
returns-else-contains c = search rules
