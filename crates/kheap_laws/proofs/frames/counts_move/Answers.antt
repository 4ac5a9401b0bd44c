use Rattle.kheap_laws.proofs.SpaceLemmas.{CountRises-inserted, CountRises-set, CountFalls-set, CountFalls-freed}
use Rattle.kheap_laws.proofs.frames.counts_move.Goals as goal

pub returns-clause-made : goal.returns-clause-made
returns-clause-made c = CountRises-inserted

pub returns-clause-raised : goal.returns-clause-raised
returns-clause-raised c = CountRises-set

pub returns-clause-lowered : goal.returns-clause-lowered
returns-clause-lowered c = CountFalls-set

pub returns-clause-freed : goal.returns-clause-freed
returns-clause-freed c = CountFalls-freed
