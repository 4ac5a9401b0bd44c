use Rattle.std.proofs.Common.{◌≡◌, drop}
use Rattle.proc_table.specs.Table.{AreStored, procs_at}
use Rattle.process_calls.proofs.LowestBehind.{first_behind}
use Rattle.process_calls.proofs.endings.live_behind.Given as goal

-- none before the place
abbrev pub invariant-loop-place : goal.invariant-loop-place
invariant-loop-place l = record {
  stored : AreStored l.objects.heap.procs (drop l.place-index l.place-items);
  none : first_behind l.pid (procs_at l.objects.heap.procs (drop l.place-index l.place-items)) ≡ first_behind l.pid (procs_at l.objects.heap.procs l.objects.procs.listed);
}
