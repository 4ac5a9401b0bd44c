-- What a call on files changes of a store, and what it leaves of it.
use Rattle.std.specs.Prelude.{◌+◌, ◌≡◌, ◌≤◌, [], length}
use Rattle.fifo_nodes.specs.Chain.{IsChain}
use Rattle.kabi_types.specs.declared.calls.Call.{Call}
use Rattle.kheap_slabs.specs.Leaves.{HoldLeaves}
use Rattle.kheap_slabs.specs.Objects.{count}
use Rattle.kheap_slabs.specs.Keys.{AreKeysOf}
use Rattle.lock_table.specs.Chain.{IsLockTable}
use Rattle.open_laws.specs.Owned.{HasItsOwners}
use Rattle.store_objects.specs.OpenMoves.{ProcsStay}
use Rattle.posix_defs.specs.Memory.{Frames}
use Rattle.posix_defs.specs.Needs.{need_of}
use Rattle.posix_defs.specs.Process.{Table}
use Rattle.proc_files.specs.Names.{AreBound, name_of}
use Rattle.proc_table.specs.Accounting.{HasAccount}
use Rattle.proc_table.specs.Standing.{IsTable}
use Rattle.proc_table.specs.Table.{Holds, keys_of}
use Rattle.store_objects.specs.declared.objects.Objects.{Objects}
use Rattle.store_objects.specs.Objects.{procs_of}
use Rattle.store_objects.specs.Trees.{KeepsTree}

-- Of a store what is open, what a process has in memory, the tree of files with what its caches keep, and names of sockets have
-- changed, and locks may have: its processes stay but for their descriptors, all that is in the heap has its owner, and the table
-- of names has as many places, with each socket that is bound at its node.
pub record FileMoves (old new : Objects) : Type 0 where
  pub procs : ProcsStay old new
  pub holds : Holds new.heap new.procs
  pub all : AreKeysOf new.heap.procs (keys_of new.procs.listed)
  pub leaves : HoldLeaves new.heap.leaves (procs_of new)
  pub owners : HasItsOwners new.heap []
  pub bound : AreBound (name_of new.heap.socks) new.names
  pub places : length new.names ≡ length old.names
  pub chain : IsChain new.heap new.fifos
  pub locked : IsLockTable new.heap.locks new.locks
  pub keeps : KeepsTree new.heap new.tree
  pub size : new.heap.heap ≡ old.heap.heap

-- Every table and every account that the processes were they are still: nobody has something else in memory.
pub record MemoryStays (old new : Objects) : Type 0 where
  pub table : (table : Table) → IsTable old.heap old.procs table → IsTable new.heap new.procs table
  pub account : (frames : Frames) → HasAccount old.heap old.procs frames → HasAccount new.heap new.procs frames

-- The caches have at most as many objects more as the need of a call has, and no read of the disk is taken back.
pub record CachesWithin (old new : Objects) (call : Call) : Type 0 where
  pub names : count new.heap.names ≤ count old.heap.names + (need_of call).name
  pub blocks : count new.heap.blocks ≤ count old.heap.blocks + (need_of call).block
  pub vnodes : count new.heap.vnodes ≤ count old.heap.vnodes + (need_of call).vnode
  pub reads : old.tree.disk.reads ≤ new.tree.disk.reads
