-- Where the processes of a heap work, and who holds the directories that these are.
use Rattle.std.specs.Prelude.{ℕ, ◌≡◌, ◌==◌, true, if◌then◌else◌, List, [], ◌∷◌, is_none}
use Rattle.std.specs.List.{AllByRecursion}
use Rattle.kheap_slabs.specs.declared.objects.Proc.{Proc}
use Rattle.memfs_ops.specs.Closing.{one_less}
use Rattle.memfs_ops.specs.FileTree.{one_more}
use Rattle.posix_defs.specs.Plain.{root}
use Rattle.posix_defs.specs.Tree.{Tree, is_directory}
use Rattle.store_objects.specs.declared.objects.Objects.{Objects}

-- the working directories of those that run
abbrev pub directories_in : List Proc → List ℕ
directories_in [] = []
directories_in (proc ∷ procs) = if is_none proc.status then proc.cwd ∷ directories_in procs else directories_in procs

-- each of these is a directory of the tree
abbrev pub AreDirectories : Tree → List ℕ → Type 0
AreDirectories tree nodes = AllByRecursion (λ node. is_directory tree node ≡ true) nodes

-- ---- who holds what

-- who worked in a directory has let it go; the root is held by itself
abbrev pub left_pins : (ℕ → ℕ) → ℕ → ℕ → ℕ
left_pins pins directory = if directory == root then pins else one_less pins directory

-- one more works in a directory
abbrev pub entered_pins : (ℕ → ℕ) → ℕ → ℕ → ℕ
entered_pins pins directory = if directory == root then pins else one_more pins directory

-- Nothing has changed but how often nodes are held.
pub record OnlyPins (old new : Objects) : Type 0 where
  pub heap : new.heap ≡ record old.heap { vnodes = new.heap.vnodes }
  pub procs : new.procs ≡ old.procs
  pub tree : new.tree ≡ record old.tree { vnodes = new.tree.vnodes }
  pub order : new.tree.vnodes.order ≡ old.tree.vnodes.order
  pub names : new.names ≡ old.names
  pub fifos : new.fifos ≡ old.fifos
  pub locks : new.locks ≡ old.locks
