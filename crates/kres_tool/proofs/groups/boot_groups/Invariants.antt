use Rattle.std.proofs.Common.{◌≡◌, take}
use Rattle.std.specs.List.{AllByRecursion}
use Rattle.group_heap.specs.Runs.{IsAtStart, sections_of}
use Rattle.kres_tool.specs.Run.{stands}
use Rattle.kres_tool.proofs.groups.boot_groups.Given as goal

-- the groups so far are those of the sections before the place
abbrev pub invariant-loop-place : goal.invariant-loop-place
invariant-loop-place g l = record {
  sections : sections_of l.groups.items ≡ take l.place l.list.sections;
  start : AllByRecursion (IsAtStart stands (λ store. store.script)) l.groups.items;
}
