-- The digest and the width of ids that are delivered: SHA-256, four bytes.
-- Assumes nothing.
use Rattle.filesystem.specs.Tables.{ID_BYTES}
use Rattle.rules.specs.Skeleton.{Config}
use Rattle.digest.specs.Sha256.{sha256}

unfoldable pub delivered : Config
delivered = record { digest = sha256; width = ID_BYTES }
