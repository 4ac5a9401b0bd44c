-- Who holds the nodes of a tree: descriptions, directories that are worked in, and sockets that have names.
use Rattle.std.specs.Prelude.{ℕ, ◌+◌, ◌%◌, ◌==◌, ◌<◌, ◌≤◌, ◌≡◌, ◌≢◌, true, false, List, Option, None, Some, count_by}
use Rattle.posix_defs.specs.Files.Descriptions.{Description, OnNode, ReadOnly, description_at}
use Rattle.posix_defs.specs.Files.State.{Files, node_of, opened_nodes}
use Rattle.posix_defs.specs.PathCalls.{is_fifo, is_socket}
use Rattle.posix_defs.specs.SocketLinks.{WaitsFor}
use Rattle.posix_defs.specs.Sockets.{socket_at}
use Rattle.posix_defs.specs.Tree.{Tree, is_directory, is_in_use, root}

-- ---- who holds a node

-- how often a number is among these
abbrev pub times : ℕ → List ℕ → ℕ
times number numbers = count_by (λ other. other == number) numbers

-- how many descriptions open a node
abbrev pub openings : Files → ℕ → ℕ
openings files number = times number (opened_nodes files)

-- how many hold it: the descriptions that open it, and others
abbrev pub holders : (ℕ → ℕ) → Files → ℕ → ℕ
holders others files number = others number + openings files number

-- Others than descriptions hold the root, and directories alone: each process the one that it works in.
pub record HoldDirectories (others : ℕ → ℕ) (tree : Tree) : Type 0 where
  pub root : 0 < others root
  pub directories : (number : ℕ) → 0 < others number → is_directory tree number ≡ true
  -- the root is held once by itself, and there are no more processes than a heap has room for
  pub few : (number : ℕ) → others number ≤ 65536

-- ---- what is open

-- What a description opens is a file or a FIFO, or a directory for reading alone, in which its offset stands between two entries. A FIFO
-- is open by its ends alone.
pub record IsOpenNode (tree : Tree) (description : Description) (number : ℕ) : Type 0 where
  pub used : is_in_use tree number ≡ true
  pub unnamed : is_socket tree number ≡ false
  pub reads : is_directory tree number ≡ true → description.access ≡ ReadOnly
  pub between : is_directory tree number ≡ true → description.offset % 32 ≡ 0
  pub no_fifo : description.target ≡ OnNode number → is_fifo tree number ≡ false

-- each description of a node opens one so, an end of a FIFO too
abbrev pub AreOpenNodes : Files → Type 0
AreOpenNodes files =
    (place number : ℕ) (description : Description) → description_at files.descriptions place ≡ Some description → node_of files description.target ≡ Some number
    → IsOpenNode files.tree description number

-- ---- who has a name

-- A socket that is bound is bound to a socket's name, but for the node whose name was just freed. Who waits to be accepted isn't
-- bound.
pub record HaveNamesBut (freed : Option ℕ) (files : Files) : Type 0 where
  pub bound : (place number : ℕ) → (socket_at files.sockets place).node ≡ Some number → freed ≢ Some number → is_socket files.tree number ≡ true
  pub waiting : (listener place : ℕ) → WaitsFor files.sockets listener place → (socket_at files.sockets place).node ≡ None

-- no name was just freed
abbrev pub HaveNames : Files → Type 0
HaveNames files = HaveNamesBut None files
