-- The header's numbers are within their limits, whatever the header holds.
-- Assumes nothing.
use Rattle.std.specs.Prelude.{◌≡◌, refl, List, ◌<◌, ◌≤◌, ℕ, length, take}
use Rattle.std.proofs.Common.{sym, subst, arith, length-take-le}
use Rattle.filesystem.specs.Tables.{NODES, FILE_BYTES, DATA_BYTES}
use Rattle.memory.specs.Layout.{mem_of, memory_size, open_rows, new_digests}
use Rattle.memory.specs.laws.MemLaws.{length-staged}
use Rattle.guard_state.specs.declared.Guard.{Guard}
use Rattle.guard_state.specs.State.{file_pages, numbers_of}

pub record InRange (g : Guard) : Type 0 where
  pub nodes : g.nodes ≤ NODES
  pub opens : g.opens ≤ open_rows
  pub node : g.node < NODES
  pub opened : g.opened < open_rows
  pub position : g.position ≤ FILE_BYTES
  pub count : g.count ≤ DATA_BYTES
  pub size : g.size ≤ FILE_BYTES
  pub page : g.page ≤ file_pages
  pub bytes : g.bytes ≤ DATA_BYTES
  pub digests : g.digests ≤ new_digests

numbers_range : (h : List ℕ) → InRange (numbers_of h)
unfolding numbers_of
numbers_range h = record {
  nodes = omega arith;
  opens = omega arith;
  node = omega arith;
  opened = omega arith;
  position = omega arith;
  count = omega arith;
  size = omega arith;
  page = omega arith;
  bytes = omega arith;
  digests = omega arith;
}

pub in_range : (g : Guard) (h : List ℕ) → g ≡ numbers_of h → InRange g
in_range g h e = subst InRange (sym e) (numbers_range h)

-- how many bytes are staged
pub bytes-length : (m : List ℕ) → memory_size ≤ length m
    → length (take (numbers_of (mem_of m).head).bytes (mem_of m).staged) ≡ (numbers_of (mem_of m).head).bytes
bytes-length m long =
    let n = length-staged m long in
    let b = (in_range (numbers_of (mem_of m).head) (mem_of m).head refl).bytes in
    length-take-le (numbers_of (mem_of m).head).bytes (mem_of m).staged (omega arith)
