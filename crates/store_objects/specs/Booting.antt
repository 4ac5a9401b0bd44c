-- A store at boot.
use Rattle.std.specs.Prelude.{ℕ, ◌≡◌, ◌+◌, [], ◌∷◌, None, replicate}
use Rattle.kabi_types.specs.declared.scripts.Control.{Control}
use Rattle.kheap_slabs.specs.Leaves.{HoldLeaves}
use Rattle.kheap_slabs.specs.Keys.{AreKeysOf}
use Rattle.lock_table.specs.Chain.{HoldsLocks}
use Rattle.open_laws.specs.Open.{AreOpen}
use Rattle.open_laws.specs.Owned.{HasItsOwners}
use Rattle.open_laws.specs.Placed.{Numbers}
use Rattle.posix_defs.specs.Files.Bare.{IsBare}
use Rattle.posix_defs.specs.Files.State.{Files}
use Rattle.posix_defs.specs.Memory.{boot_frames}
use Rattle.posix_defs.specs.Plain.{first_process}
use Rattle.std.specs.Prelude.{Some}
use Rattle.proc_table.specs.Accounting.{HasAccount}
use Rattle.proc_table.specs.Procs.{first_proc}
use Rattle.proc_table.specs.Standing.{IsTable}
use Rattle.proc_table.specs.Table.{Holds, keys_of}
use Rattle.store_objects.specs.declared.objects.Objects.{Objects}
use Rattle.store_objects.specs.Objects.{most_nodes, procs_of}
use Rattle.store_objects.specs.Trees.{kept_by}
use Rattle.memfs_ops.specs.FileTree.{Stands, root_alone}
use Rattle.posix_defs.specs.Tree.{new_tree}
use Rattle.posix_defs.specs.World.{boot_kept}

-- The first process alone stands at this control, in a heap of so many bytes beside the tree of a new disk, which was never
-- read. The root alone is cached.
pub record HasBooted (objects : Objects) (heap blocks : ℕ) (control : Control) : Type 0 where
  pub holds : Holds objects.heap objects.procs
  pub all : AreKeysOf objects.heap.procs (keys_of objects.procs.listed)
  pub leaves : HoldLeaves objects.heap.leaves (procs_of objects)
  pub owners : HasItsOwners objects.heap []
  pub opened : (numbers : Numbers) (files : Files) → IsBare files → AreOpen numbers objects.heap [] files
  pub stands : Stands objects.heap objects.tree (new_tree blocks) root_alone
  pub kept : kept_by objects.tree ≡ boot_kept
  pub unread : objects.tree.disk.reads ≡ 0
  pub size : objects.heap.heap ≡ heap
  pub names : objects.names ≡ replicate (most_nodes + 1) None
  pub fifos : objects.fifos ≡ None
  pub locks : HoldsLocks objects.heap.locks objects.locks []
  pub first : procs_of objects ≡ record first_proc { control = control } ∷ []
  pub last : objects.procs.last ≡ 1
  pub table : IsTable objects.heap objects.procs (Some first_process ∷ [])
  pub account : HasAccount objects.heap objects.procs boot_frames
