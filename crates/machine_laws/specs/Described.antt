-- Of descriptors and descriptions, what every machine that is reached keeps.
use Rattle.std.specs.Prelude.{ℕ, ◌≡◌, true, is_some}
use Rattle.posix_defs.specs.Files.Descriptors.{is_named}
use Rattle.posix_defs.specs.Files.Descriptions.{description_at}
use Rattle.posix_defs.specs.Files.State.{Files}

-- What a descriptor names is there, and what is there is named.
pub record AreDescribed (files : Files) : Type 0 where
  pub named : (place : ℕ) → is_named files.descriptors place ≡ true → is_some (description_at files.descriptions place) ≡ true
  pub there : (place : ℕ) → is_some (description_at files.descriptions place) ≡ true → is_named files.descriptors place ≡ true
