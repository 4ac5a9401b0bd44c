use Rattle.page_space.proofs.ClearLemmas.{SpaceLeaves-cleared}
use Rattle.page_space.proofs.spaces.Space.release.Goals as goal

pub returns-clause-leaves : goal.returns-clause-leaves
returns-clause-leaves c =
    SpaceLeaves-cleared c.args.heap.now c.unmap_run.new.heap c.args.self c.unmap_run.new.self c.requires.owned c.unmap_run.ensures c.nodes.ensures.groups c.heap_is_well_formed.ensures.entries
