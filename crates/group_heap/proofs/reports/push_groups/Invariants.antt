use Rattle.std.proofs.Common.{◌≡◌, ◌++◌, take}
use Rattle.group_heap.specs.Reports.{all_lines}
use Rattle.group_heap.specs.Telling.{told_each}
use Rattle.group_heap.proofs.reports.push_groups.Given as goal

-- the groups before the place are told
abbrev pub invariant-loop-group : goal.invariant-loop-group
invariant-loop-group g l = l.out.items ≡ l.fn.out.items ++ all_lines (told_each (take l.group-index l.groups))
