-- What was read of a source.
use Rattle.std.specs.Prelude.{ℕ, ◌≡◌, ◌≤◌, ◌⊎◌, List, Option, Result, Ok, Err, length}
use Rattle.std.specs.Io.KnownBytes.{Consumes, IsAtEnd}
use Rattle.kabi_types.specs.declared.scripts.Script.{Script}
use Rattle.kabi_types.specs.declared.scripts.ScriptFault.{ScriptFault}
use Rattle.kio_ports.specs.Faults.{HasRisen}
use Rattle.posix_defs.specs.ScriptText.{ReadsText}
use Rattle.posix_defs.specs.ValidScript.{IsValid}
use Rattle.kres_tool.specs.declared.reading.Reading.{Reading}
use Rattle.kres_tool.specs.declared.reading.Reading.TheVariants as reading
use Rattle.kres_tool.specs.declared.text.Text.{Text}
use Rattle.kres_tool.specs.declared.text.Text.TheVariants.{Read, Fault}

-- one byte more than a script may have
abbrev pub too_many : ℕ
too_many = 1048577

-- The source had these bytes next, and was read to its end or to the byte that is too many.
pub record HasTaken (bytes : List ℕ) (old new : Option (List ℕ)) : Type 0 where
  pub taken : Consumes old new bytes
  pub within : length bytes ≤ too_many
  pub whole : (length bytes ≡ too_many) ⊎ IsAtEnd new

-- a text was taken, with no fault; or there was a fault
abbrev pub HasRead : Text → Option (List ℕ) → Option (List ℕ) → ℕ → ℕ → Type 0
HasRead (Read bytes) old new faults faults' = HasTaken bytes.items old new × (faults' ≡ faults)
HasRead Fault old new faults faults' = HasRisen faults faults'

-- The source had a text that says this, and no take failed.
pub record HasReadAs (outcome : Result Script ScriptFault) (old new : Option (List ℕ)) (faults faults' : ℕ) : Type 0 where
  pub text : List ℕ
  pub taken : HasTaken text old new
  pub no_fault : faults' ≡ faults
  pub reads : ReadsText text outcome

-- the text says this script, which is valid, or has this fault
abbrev pub Says : List ℕ → Reading → Type 0
Says text (reading.Script script) = ReadsText text (Ok script) × IsValid script
Says text (reading.Bad fault) = ReadsText text (Err fault)
Says text reading.Broken = ⊥

-- a script was read, which is valid, or a text with a fault; or a take failed
abbrev pub IsReadAs : Reading → Option (List ℕ) → Option (List ℕ) → ℕ → ℕ → Type 0
IsReadAs (reading.Script script) old new faults faults' = HasReadAs (Ok script) old new faults faults' × IsValid script
IsReadAs (reading.Bad fault) old new faults faults' = HasReadAs (Err fault) old new faults faults'
IsReadAs reading.Broken old new faults faults' = HasRisen faults faults'
