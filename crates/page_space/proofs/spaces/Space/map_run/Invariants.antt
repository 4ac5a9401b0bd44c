use Rattle.page_space.proofs.MapLemmas.{IsFilling}
use Rattle.page_space.proofs.spaces.Space.map_run.Given as goal

abbrev pub invariant-loop-page : goal.invariant-loop-page
invariant-loop-page l = IsFilling l.initial.heap l.initial.purse l.heap l.purse l.initial.self l.self l.first l.page
