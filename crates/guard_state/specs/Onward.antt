-- The header's numbers of a change of a file's bytes: as it begins, and as it goes on from page to page.
--   write_numbers, truncate_numbers    as a write, as a truncation begins
--   goes_on call page                 as it waits for something else
-- Assumes nothing.
use Rattle.std.specs.Prelude.{false, ℕ}
use Rattle.guard_state.specs.Calls.{FETCHING}
use Rattle.guard_state.specs.declared.Guard.{Guard}

-- a write of this many bytes, none of its pages asked yet
unfoldable pub write_numbers : Guard → (node opened position bytes : ℕ) → Guard
write_numbers g k o p n = record {
  nodes = g.nodes;
  opens = g.opens;
  stopped = false;
  call = FETCHING;
  node = k;
  opened = o;
  parent = 0;
  kind = 0;
  mode = 0;
  rights = 0;
  position = p;
  count = 0;
  size = 0;
  page = 0;
  bytes = n;
  digests = 0;
}

-- a truncation to this size
unfoldable pub truncate_numbers : Guard → (call node opened size : ℕ) → Guard
truncate_numbers g call k o z = record {
  nodes = g.nodes;
  opens = g.opens;
  stopped = false;
  call = call;
  node = k;
  opened = o;
  parent = 0;
  kind = 0;
  mode = 0;
  rights = 0;
  position = 0;
  count = 0;
  size = z;
  page = 0;
  bytes = 0;
  digests = 0;
}

-- it waits for something else now, of this page
unfoldable pub goes_on : (call page : ℕ) → Guard → Guard
goes_on call i g = record {
  nodes = g.nodes;
  opens = g.opens;
  stopped = g.stopped;
  call = call;
  node = g.node;
  opened = g.opened;
  parent = g.parent;
  kind = g.kind;
  mode = g.mode;
  rights = g.rights;
  position = g.position;
  count = g.count;
  size = g.size;
  page = i;
  bytes = g.bytes;
  digests = g.digests;
}
