use Rattle.std.proofs.Common.{◌≡◌, drop, cond, true}
use Rattle.std.specs.List.{list_any}
use Rattle.proc_table.specs.Changes.{is_wanted, told_of}
use Rattle.proc_table.specs.Table.{AreStored, procs_at}
use Rattle.proc_table.proofs.tables.ProcTable.answer.Given as goal

-- before the place none is told, and whether one is wanted was found
abbrev pub invariant-loop-place : goal.invariant-loop-place
invariant-loop-place l = record {
  stored : AreStored l.heap.procs (drop l.place-index l.place-items);
  none : told_of l.parent l.which (procs_at l.heap.procs (drop l.place-index l.place-items)) ≡ told_of l.parent l.which (procs_at l.heap.procs l.self.listed);
  wanted : cond l.found true (list_any (is_wanted l.parent l.which) (procs_at l.heap.procs (drop l.place-index l.place-items))) ≡ list_any (is_wanted l.parent l.which) (procs_at l.heap.procs l.self.listed);
}
