-- What a close leaves of heap and table where a description of a node may go with it.
use Rattle.std.specs.Prelude.{ℕ, ◌≡◌, [], Some}
use Rattle.kheap_slabs.specs.Objects.{object, put}
use Rattle.kheap_slabs.specs.Paid.{IsPaid}
use Rattle.kheap_slabs.specs.Purse.{Purse}
use Rattle.kheap_slabs.specs.declared.objects.Proc.{Proc}
use Rattle.kheap_slabs.specs.Heap.{Heap}
use Rattle.memfs_ops.specs.Closing.{MayFree}
use Rattle.proc_numbers.specs.Having.{ClosesNumber}
use Rattle.proc_table.specs.Procs.{with_numbers}
use Rattle.proc_table.specs.Table.{TableView, key_of}

-- A purse that has filled nothing may pay for what closing a node takes: it asks for blocks, and gives back all that it fills.
pub record MayClose (h : Heap) (purse : Purse) : Type 0 where
  pub free : MayFree h purse
  pub vnodes : purse.vnodes ≡ []
  pub blocks : purse.blocks ≡ []

-- What is closed first is paid for by one purse, which is whole again afterwards, and what is opened then by another one.
pub record PaysInTurn (old : Heap) (back before : Purse) (new : Heap) (after : Purse) : Type 0 where
  pub mid : Heap
  pub closes : IsPaid old back mid back
  pub opens : IsPaid mid before new after

-- of the heap the objects of the three caches alone are others
abbrev pub CachesChange : Heap → Heap → Type 0
CachesChange old new = new ≡ record old { vnodes = new.vnodes; names = new.names; blocks = new.blocks; high = new.high }

-- the heap with the locks of another one
abbrev pub with_locks_of : Heap → Heap → Heap
with_locks_of old new = record old { locks = new.locks }

-- A number of a process is open no more, and of the caches only what goes with a node is other.
pub record ClosesHolding (old new : Heap) (kept : TableView) (pid fd : ℕ) : Type 0 where
  pub mid : Heap
  pub closes : ClosesNumber old mid kept pid fd
  pub caches : CachesChange mid new

-- Of one process other numbers are open, in its Proc and its Leaves; of the other objects only what is open, what the caches keep
-- and locks are others.
pub record ChangesHolding (old new : Heap) (kept : TableView) (pid : ℕ) : Type 0 where
  pub key : ℕ
  pub proc : Proc
  pub now : Proc
  pub named : key_of kept.listed pid ≡ Some key
  pub there : object old.procs key ≡ Some proc
  pub same : now ≡ with_numbers proc now
  pub procs : new.procs ≡ put old.procs key now
  pub beside : new ≡ record old {
    procs = new.procs;
    leaves = new.leaves;
    descs = new.descs;
    pipes = new.pipes;
    chunks = new.chunks;
    socks = new.socks;
    vnodes = new.vnodes;
    names = new.names;
    blocks = new.blocks;
    locks = new.locks;
    high = new.high;
  }
