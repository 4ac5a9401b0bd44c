use Rattle.page_space.specs.Entries.{is_mapped_at}
use Rattle.page_space.specs.Runs.{IsMappedRun}
use Rattle.page_space.proofs.spaces.Space.is_mapped_run.Given as goal

abbrev pub invariant-loop-page : goal.invariant-loop-page
invariant-loop-page l = IsMappedRun (is_mapped_at l.heap.nodes l.self) l.first l.page
