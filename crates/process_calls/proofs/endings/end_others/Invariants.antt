use Rattle.std.proofs.Common.{◌≡◌, ◌-◌, ◌≤◌}
use Rattle.kabi_types.specs.declared.scripts.Script.{Script}
use Rattle.kheap_slabs.specs.Paid.{CanPay, IsPaid}
use Rattle.open_laws.specs.Placed.{Numbers}
use Rattle.posix_defs.specs.Files.State.{Files}
use Rattle.posix_defs.specs.Memory.{Frames}
use Rattle.posix_defs.specs.Process.{Table}
use Rattle.proc_numbers.specs.Queues.{QueuesStand}
use Rattle.proc_table.specs.Accounting.{HasAccount}
use Rattle.proc_table.specs.Standing.{IsTable}
use Rattle.store_objects.specs.Objects.{AreKept}
use Rattle.store_objects.specs.Purses.{closing_need, unspent}
use Rattle.process_calls.specs.Endings.{ClearsSome, HoldFilesOf, HoldSomeFiles}
use Rattle.process_calls.proofs.EndingOthers.{ClosesOn, EndsOn}
use Rattle.process_calls.proofs.endings.end_others.Given as goal

-- those that run up to the pid have ended
abbrev pub invariant-loop-next : goal.invariant-loop-next
invariant-loop-next l = record {
  kept : (script : Script) → AreKept script l.fn.objects → AreKept script l.objects;
  some : (script : Script) × AreKept script l.objects;
  held : HoldSomeFiles l.objects;
  last : l.objects.procs.last ≡ l.fn.objects.procs.last;
  table : (table : Table) → IsTable l.fn.objects.heap l.fn.objects.procs table → EndsOn l.fn.objects l.objects l.pid table;
  account : (frames : Frames) → HasAccount l.fn.objects.heap l.fn.objects.procs frames
      → (after : Frames) × HasAccount l.objects.heap l.objects.procs after × ClearsSome frames after;
  closes : (numbers : Numbers) (files : Files) → HoldFilesOf numbers l.fn.objects files → ClosesOn l.fn.objects l.objects l.pid numbers files;
  queues : QueuesStand l.fn.objects.heap l.objects.heap;
  reads : l.fn.objects.tree.disk.reads ≤ l.objects.tree.disk.reads;
  same : l.purse ≡ l.fn.purse;
  back : l.purse ≡ unspent closing_need;
  room : CanPay l.objects.heap l.purse;
  paid : IsPaid l.fn.objects.heap l.fn.purse l.objects.heap l.purse;
}

abbrev pub decreases-loop-next : goal.decreases-loop-next
decreases-loop-next l = l.objects.procs.last - l.pid
