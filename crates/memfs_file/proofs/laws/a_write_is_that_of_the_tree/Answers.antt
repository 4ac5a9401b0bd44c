use Rattle.memfs_file.proofs.OnTree.{writes, writes_none, writes_big}
use Rattle.memfs_file.proofs.laws.a_write_is_that_of_the_tree.Goals as goal

pub returns-clause-written : goal.returns-clause-written
returns-clause-written c = λ disk after tree number links at count was bytes old new stands there has.
    writes disk tree number links was old (record { stands = stands; there = there; has = has }) at count bytes after new

pub returns-clause-full : goal.returns-clause-full
returns-clause-full c = λ disk tree number links at was bytes old stands there has.
    writes_none disk tree number links was old (record { stands = stands; there = there; has = has }) at bytes

pub returns-clause-big : goal.returns-clause-big
returns-clause-big c = writes_big
