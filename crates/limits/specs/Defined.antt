-- The definitions' limits as the code's record of them.
-- Assumes nothing.
use Rattle.filesystem.specs.Tables.{NODES, OPEN_FILES, PAGES, PAGE_BYTES, DIGEST_BYTES, FILE_BYTES, NAME_BYTES}
use Rattle.filesystem.specs.Tables.{PATH_BYTES, ID_BYTES, DATA_BYTES, DESCRIPTORS}
use Rattle.filesystem.specs.MemoryMaps.{MAPS, MAP_UNIT, MAP_BYTES}
use Rattle.limits.specs.declared.Limits.{Limits}

abbrev pub defined_limits : Limits
defined_limits = record {
  nodes = NODES;
  opens = OPEN_FILES;
  pages = PAGES;
  page = PAGE_BYTES;
  digest = DIGEST_BYTES;
  file = FILE_BYTES;
  name = NAME_BYTES;
  path = PATH_BYTES;
  id = ID_BYTES;
  transfer = DATA_BYTES;
  descriptors = DESCRIPTORS;
  maps = MAPS;
  unit = MAP_UNIT;
  map = MAP_BYTES;
}
