-- A name that goes over to another: what has to be so before.
use Rattle.std.specs.Prelude.{◌≡◌, ◌≢◌, ℕ, Bool, true, false, List, [], Option, Some, None, Result, Err}
use Rattle.kabi_types.specs.declared.errnos.Errno.{Errno}
use Rattle.posix_defs.specs.IsTree.{IsEntryName}
use Rattle.posix_defs.specs.PathCalls.{is_socket}
use Rattle.posix_defs.specs.Tree.{Tree, found, is_directory, entries_at, climbed}

-- a node isn't a directory that is another one or stands above it
abbrev pub IsOffWay : Tree → ℕ → ℕ → Type 0
IsOffWay tree number to = is_directory tree number ≡ true → (steps : ℕ) → climbed tree steps to ≢ number

-- A name goes over to one that leads to another node, which may lose it: a directory has no entries, and no one holds what
-- doesn't stay.
pub record MayReplace (tree : Tree) (pins : ℕ → ℕ) (dir : ℕ) (name : List ℕ) (number to : ℕ) (new : List ℕ) (replaced : ℕ) (opened : Bool) : Type 0 where
  pub there : found tree dir name ≡ Some number
  pub target : found tree to new ≡ Some replaced
  pub other : number ≢ replaced
  pub directory : is_directory tree replaced ≡ true → (entries_at tree replaced ≡ []) × (opened ≡ false)
  pub socket : is_socket tree replaced ≡ true → opened ≡ false
  pub held : opened ≡ false → pins replaced ≡ 0
  pub off : IsOffWay tree number to

-- A name goes over to one that is free.
pub record MayMove (tree : Tree) (dir : ℕ) (name : List ℕ) (number to : ℕ) (new : List ℕ) : Type 0 where
  pub there : found tree dir name ≡ Some number
  pub directory : is_directory tree to ≡ true
  pub free : found tree to new ≡ None
  pub valid : IsEntryName new
  pub off : IsOffWay tree number to

-- a fault, else what follows
abbrev pub unless_told : Option Errno → Result (Option ℕ × Tree) Errno → Result (Option ℕ × Tree) Errno
unless_told None led = led
unless_told (Some errno) led = Err errno
