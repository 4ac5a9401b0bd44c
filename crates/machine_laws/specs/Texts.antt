-- What the calls of a script's programs name.
use Rattle.std.specs.Prelude.{ℕ, ℤ, ◌<◌, ◌≤◌, ◌^◌, ◌≡◌, List}
use Rattle.std.specs.List.{All, Contains}
use Rattle.kabi_types.specs.declared.calls.Call.TheVariants as calls
use Rattle.kabi_types.specs.declared.scripts.Control.{Control}
use Rattle.kabi_types.specs.declared.scripts.Script.{Script}
use Rattle.posix_defs.specs.Control.{call_of}
use Rattle.posix_defs.specs.Reaching.{paths_of}
use Rattle.machine_laws.specs.Bytes.{AreBytes}

-- each is a byte that a path may have: none is zero
abbrev pub ArePathBytes : List ℕ → Type 0
ArePathBytes path = All (λ byte. (0 < byte) × (byte < 2 ^ 8)) path

-- The script's disk has 16 to 4096 blocks, and whatever its programs call, paths have no zero byte, and what is stored is
-- bytes.
pub record HasTexts (script : Script) : Type 0 where
  pub least_disk : 16 ≤ script.disk
  pub most_disk : script.disk ≤ 4096
  pub paths : (control : Control) (path : List ℕ) → Contains (paths_of (call_of script control)) path → ArePathBytes path
  pub stored : (control : Control) (addr : ℤ) (bytes : List ℕ) → call_of script control ≡ calls.Store addr bytes → AreBytes bytes
