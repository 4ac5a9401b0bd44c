use Rattle.page_space.specs.Entries.{is_mapped_at}
use Rattle.page_space.proofs.RunLemmas.{IsSearched}
use Rattle.page_space.proofs.spaces.Space.lowest_run.Given as goal

abbrev pub invariant-loop-page : goal.invariant-loop-page
invariant-loop-page l = IsSearched (is_mapped_at l.heap.nodes l.self) l.pages l.unmapped l.page
