-- Parents of nodes as places that lead up to place 0, where the root stands.
-- Assumes nothing.
use Rattle.std.specs.Prelude.{◌≡◌, List, ℕ, suc, ◌<◌, length, get_or}
use Rattle.filesystem.specs.Tables.{NODES, Node}

-- of the first i of n nodes: parents' places in `to`; the bytes of names, each with a slash, in `far`
pub record Placed (node : ℕ → Node) (to far : List ℕ) (n i : ℕ) : Type 0 where
  pub to_size : length to ≡ NODES
  pub far_size : length far ≡ NODES
  pub inside : (k : ℕ) → 0 < k → k < i → get_or to k 0 < n
  pub ids : (k : ℕ) → 0 < k → k < i → (node (get_or to k 0)).id ≡ (node k).parent
  pub kinds : (k : ℕ) → 0 < k → k < i → (node (get_or to k 0)).kind ≡ 2
  pub steps : (k : ℕ) → 0 < k → k < i → get_or far k 0 ≡ suc (length (node k).name)
