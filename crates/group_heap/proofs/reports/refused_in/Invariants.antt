use Rattle.std.proofs.Common.{◌≡◌, ◌≤◌, count_by, take}
use Rattle.group_heap.specs.Reports.{is_refused}
use Rattle.group_heap.specs.Telling.{told_of}
use Rattle.group_heap.proofs.reports.refused_in.Given as goal

-- those before the place are counted
abbrev pub invariant-loop-group : goal.invariant-loop-group
invariant-loop-group g l = record {
  refused : l.refused ≡ count_by (λ group. is_refused (told_of group)) (take l.group-index l.groups);
  few : l.refused ≤ l.group-index;
}
