-- A layout as code has it, and as definitions speak of it.
-- Assumes nothing.
use Rattle.filesystem.specs.Image as image
use Rattle.filesystem.specs.Layouts.{layout}
use Rattle.image_records.specs.declared.layouts.Layout.{Layout}

abbrev pub laid : Layout → image.Layout
laid y = layout y.id_bytes y.maker_bytes
