-- Of processes and their descriptors, what every machine that is reached keeps.
use Rattle.std.specs.Prelude.{◌≡◌, length}
use Rattle.posix_defs.specs.Plain.{Plain, last_pid}
use Rattle.posix_defs.specs.Files.Whole.{HasPlaces}

-- As many processes as controls were made, and each has its numbers of descriptors, of which one that has ended has none open.
pub record IsPlaced (plain : Plain) : Type 0 where
  pub counted : length plain.table ≡ last_pid plain
  pub places : HasPlaces plain
