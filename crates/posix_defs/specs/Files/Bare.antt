-- A machine in which nothing was opened or made yet.
use Rattle.std.specs.Prelude.{ℕ, ◌≡◌, []}
use Rattle.posix_defs.specs.Tree.{new_tree}
use Rattle.posix_defs.specs.Files.Descriptors.{none_open}
use Rattle.posix_defs.specs.Files.State.{Files, descriptors_of}

-- No process has a descriptor open, there is no description, no pipe, no socket and no lock, and the tree is a new one.
pub record IsBare (files : Files) : Type 0 where
  pub descriptors : (pid : ℕ) → descriptors_of files pid ≡ none_open
  pub descriptions : files.descriptions ≡ []
  pub tree : files.tree ≡ new_tree files.tree.blocks
  pub pipes : files.pipes ≡ []
  pub sockets : files.sockets ≡ []
  pub locks : files.locks ≡ []
