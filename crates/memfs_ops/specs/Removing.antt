-- A name that goes: what is told of it, and who holds what.
use Rattle.std.specs.Prelude.{◌≡◌, ◌≢◌, ℕ, Bool, true, false, List, [], Option, Some, Result, Ok, Err, nat_lt}
use Rattle.kabi_types.specs.declared.errnos.Errno.{Errno}
use Rattle.kheap_slabs.specs.Heap.{Heap}
use Rattle.posix_defs.specs.PathCalls.{is_socket}
use Rattle.posix_defs.specs.Tree.{Tree, root, found, is_directory, entries_at}
use Rattle.memfs_ops.specs.FileTree.{TreeView, Stands}

-- The answer is the plain tree's, the number of a socket's name that was freed, and it stands for the tree after it; where
-- the answer is a fault, for the tree as it was.
abbrev pub ToldTo : Heap → TreeView → Tree → Result (Option ℕ × Tree) Errno → (ℕ → ℕ) → Result (Option ℕ) Errno → Type 0
ToldTo heap fs tree (Ok (freed, next)) pins answer = (answer ≡ Ok freed) × Stands heap fs next pins
ToldTo heap fs tree (Err errno) pins answer = (answer ≡ Err errno) × Stands heap fs tree pins

-- someone holds a node
abbrev pub is_held : (ℕ → ℕ) → ℕ → Bool
is_held pins number = nat_lt 0 (pins number)

-- a test tells of each node but the root, which is held always, whether someone holds it
abbrev pub TellsHeld : (ℕ → ℕ) → (ℕ → Bool) → Type 0
TellsHeld pins test = (number : ℕ) → number ≢ root → test number ≡ is_held pins number

-- a test tells of each file and FIFO whether someone holds it
abbrev pub TellsOpened : Tree → (ℕ → ℕ) → (ℕ → Bool) → Type 0
TellsOpened tree pins test = (number : ℕ) → is_directory tree number ≡ false → is_socket tree number ≡ false → test number ≡ is_held pins number

-- a socket's name can't be opened, and is no directory: no one holds it
abbrev pub HoldsNoSocket : Tree → (ℕ → ℕ) → Type 0
HoldsNoSocket tree pins = (number : ℕ) → is_socket tree number ≡ true → pins number ≡ 0

-- A name leads to a node that may lose it: a directory has no entries, and no one holds what doesn't stay.
pub record MayUnlink (tree : Tree) (pins : ℕ → ℕ) (dir : ℕ) (name : List ℕ) (number : ℕ) (opened : Bool) : Type 0 where
  pub there : found tree dir name ≡ Some number
  pub directory : is_directory tree number ≡ true → (entries_at tree number ≡ []) × (opened ≡ false)
  pub socket : is_socket tree number ≡ true → opened ≡ false
  pub held : opened ≡ false → pins number ≡ 0
