use Rattle.std.proofs.Common.{◌≤◌, ◌-◌}
use Rattle.page_space.proofs.ForkLemmas.{IsForking}
use Rattle.page_space.proofs.spaces.Space.fork_from.Given as goal

abbrev pub invariant-loop-page : goal.invariant-loop-page
invariant-loop-page l = IsForking l.initial.heap l.initial.purse l.heap l.purse l.of l.space l.page × (l.page ≤ 256)

abbrev pub decreases-loop-page : goal.decreases-loop-page
decreases-loop-page l = 256 - l.page
