use Rattle.memfs_file.proofs.OnTree.{sizes, sizes_none, sizes_big}
use Rattle.memfs_file.proofs.laws.another_size_is_that_of_the_tree.Goals as goal

pub returns-clause-sized : goal.returns-clause-sized
returns-clause-sized c = λ disk after tree number links size was old new stands there has.
    sizes disk tree number links was old (record { stands = stands; there = there; has = has }) size after new

pub returns-clause-full : goal.returns-clause-full
returns-clause-full c = λ disk tree number links size was old stands there has.
    sizes_none disk tree number links was old (record { stands = stands; there = there; has = has }) size

pub returns-clause-big : goal.returns-clause-big
returns-clause-big c = sizes_big
