use Rattle.std.proofs.Common.{◌≡◌, ◌≤◌, ℕ, [], length}
use Rattle.fifo_nodes.specs.Chain.{IsChain}
use Rattle.lock_table.specs.Chain.{HoldsLocks, IsLockTable}
use Rattle.memfs_ops.specs.Closing.{KeepsCached}
use Rattle.kheap_slabs.specs.Paid.{IsPaid}
use Rattle.open_laws.specs.Owned.{HasItsOwners}
use Rattle.open_laws.specs.Placed.{Numbers}
use Rattle.posix_defs.specs.Files.State.{Files}
use Rattle.proc_numbers.specs.Having.{AreListed}
use Rattle.proc_numbers.specs.Queues.{QueuesStand}
use Rattle.proc_files.specs.Closing.{MayClose}
use Rattle.proc_files.specs.Ending.{ClosesMarked, OnlyGoes, closed_where, is_marked}
use Rattle.proc_files.specs.Holders.{openings}
use Rattle.proc_files.specs.NameHolding.{HoldNames, HoldSomeNames}
use Rattle.proc_files.proofs.ending.close_marked.Given as goal

-- those that are marked are closed of the numbers below
abbrev pub invariant-loop-fd : goal.invariant-loop-fd
invariant-loop-fd l = record {
  closed : (numbers : Numbers) (others : ℕ → ℕ) (files : Files) → HoldNames numbers others l.fn.heap l.procs l.fn.tree l.fn.names files
      → HoldNames numbers others l.heap l.procs l.tree l.names (closed_where (is_marked l.marks) files l.place.pid l.fd);
  locks : (numbers : Numbers) (others : ℕ → ℕ) (files : Files) → HoldNames numbers others l.fn.heap l.procs l.fn.tree l.fn.names files → HoldsLocks l.fn.heap.locks l.fn.locks files.locks
      → HoldsLocks l.heap.locks l.locks (closed_where (is_marked l.marks) files l.place.pid l.fd).locks;
  listed : AreListed l.heap l.procs;
  owners : HasItsOwners l.heap [];
  chain : IsChain l.heap l.fifos;
  locked : IsLockTable l.heap.locks l.locks;
  hold : HoldSomeNames l.heap l.procs l.tree l.names;
  closes : ClosesMarked l.fn.heap l.heap l.procs l.place.pid (is_marked l.marks) l.fd;
  queues : QueuesStand l.fn.heap l.heap;
  same : l.purse ≡ l.fn.purse;
  may : MayClose l.heap l.purse;
  places : length l.names ≡ length l.fn.names;
  paid : IsPaid l.fn.heap l.fn.purse l.heap l.purse;
  goes : (numbers : Numbers) (others : ℕ → ℕ) (files : Files) → HoldNames numbers others l.fn.heap l.procs l.fn.tree l.fn.names files → OnlyGoes files (closed_where (is_marked l.marks) files l.place.pid l.fd);
  stays : (numbers : Numbers) (others : ℕ → ℕ) (files : Files) → HoldNames numbers others l.fn.heap l.procs l.fn.tree l.fn.names files
      → ((number : ℕ) → openings (closed_where (is_marked l.marks) files l.place.pid l.fd) number ≡ openings files number) → l.tree ≡ l.fn.tree;
  reads : l.fn.tree.disk.reads ≤ l.tree.disk.reads;
  cached : KeepsCached l.fn.tree l.tree;
}
