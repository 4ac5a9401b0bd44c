-- What is told of each group.
use Rattle.std.specs.Prelude.{List, map}
use Rattle.group_heap.specs.declared.groups.Group.{Group}
use Rattle.group_heap.specs.declared.groups.GroupEnd.{GroupEnd}
use Rattle.group_heap.specs.declared.groups.GroupEnd.TheVariants as end
use Rattle.group_heap.specs.Reports.{Told, Refused, Ran}

abbrev pub told_by : {T : Type 0} → Group T → GroupEnd → Told
told_by group (end.Refused heap) = Refused group.name group.script.heap
told_by group (end.Ran how) = Ran group.name group.script.heap group.text
told_by group end.NotRun = Ran group.name group.script.heap group.text

-- what is told of a group; nobody is told of one that hasn't run
abbrev pub told_of : {T : Type 0} → Group T → Told
told_of group = told_by group group.outcome

abbrev pub told_each : {T : Type 0} → List (Group T) → List Told
told_each groups = map told_of groups
