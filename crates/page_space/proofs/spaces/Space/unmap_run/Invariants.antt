use Rattle.std.proofs.Common.{◌≤◌, ◌-◌}
use Rattle.page_space.specs.Contents.{IsCleared}
use Rattle.page_space.proofs.spaces.Space.unmap_run.Given as goal

abbrev pub invariant-loop-page : goal.invariant-loop-page
invariant-loop-page l = IsCleared l.initial.heap l.heap l.initial.self l.self l.first l.page × (l.first ≤ l.page) × (l.page ≤ l.end)

abbrev pub decreases-loop-page : goal.decreases-loop-page
decreases-loop-page l = l.end - l.page
