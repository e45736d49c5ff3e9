-- A fresh guard has one node, the root (SPECIFICATION 2.2), and so has the tree.
use Rattle.std.specs.Prelude.{◌≡◌, refl, [], ◌∷◌}
use Rattle.machine.specs.Machine.{fresh, guard}
use Rattle.machine.specs.Tree.{tree}
use Rattle.rule_examples.specs.Bytes.{config}
use Rattle.rule_examples.specs.Given.{folder, Given, given}
use Rattle.rule_examples.specs.Evaluation.{guard_side, tree_side, begun, wrong}

abbrev alone : Given
alone = given (folder 1 0 7 "" ∷ []) []

pub fresh_guard_lem : fresh config (guard config) ≡ begun guard_side alone
unfolding wrong
fresh_guard_lem = refl

pub fresh_tree_lem : fresh config (tree config) ≡ begun tree_side alone
unfolding wrong
fresh_tree_lem = refl
