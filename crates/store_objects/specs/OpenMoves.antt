-- What a call on what is open changes of a store, and what it leaves of it.
use Rattle.std.specs.Prelude.{ℕ, ◌≡◌, []}
use Rattle.std.specs.Option.{option_map}
use Rattle.fifo_nodes.specs.Chain.{IsChain}
use Rattle.kheap_slabs.specs.Leaves.{HoldLeaves}
use Rattle.kheap_slabs.specs.declared.objects.Proc.{Proc}
use Rattle.kheap_slabs.specs.Keys.{AreKeysOf}
use Rattle.open_laws.specs.Owned.{HasItsOwners}
use Rattle.proc_files.specs.Names.{name_of}
use Rattle.proc_table.specs.Procs.{proc_of, with_numbers}
use Rattle.proc_table.specs.Table.{Holds, keys_of}
use Rattle.store_objects.specs.declared.objects.Objects.{Objects}
use Rattle.store_objects.specs.Objects.{procs_of}
use Rattle.store_objects.specs.Trees.{TreeStays}

-- the same process with the numbers of another
abbrev pub opening : Proc → Proc → Proc
opening now proc = with_numbers proc now

-- The processes are those that were there, each as it was but for its descriptors.
pub record ProcsStay (old new : Objects) : Type 0 where
  pub same : new.procs ≡ old.procs
  pub each : (pid : ℕ) → (now : Proc) × (proc_of (procs_of new) pid ≡ option_map (opening now) (proc_of (procs_of old) pid))

-- The locks are those that were there.
pub record LocksStay (old new : Objects) : Type 0 where
  pub shelf : new.heap.locks ≡ old.heap.locks
  pub first : new.locks ≡ old.locks

-- Of a store only what is open has changed, and what a process has in memory: its processes stay but for their descriptors, all that
-- is in the heap has its owner, and the tree of files and all locks are the same. No socket has another name.
pub record OpenMoves (old new : Objects) : Type 0 where
  pub procs : ProcsStay old new
  pub holds : Holds new.heap new.procs
  pub all : AreKeysOf new.heap.procs (keys_of new.procs.listed)
  pub leaves : HoldLeaves new.heap.leaves (procs_of new)
  pub owners : HasItsOwners new.heap []
  pub names : (key : ℕ) → name_of new.heap.socks key ≡ name_of old.heap.socks key
  pub chain : IsChain new.heap new.fifos
  pub locks : LocksStay old new
  pub tree : TreeStays old new
