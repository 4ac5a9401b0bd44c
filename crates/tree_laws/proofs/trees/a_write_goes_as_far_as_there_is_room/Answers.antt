use Rattle.tree_laws.proofs.FileFits.{written_far, written_none, written_big}
use Rattle.tree_laws.proofs.trees.a_write_goes_as_far_as_there_is_room.Goals as goal

pub returns-clause-far : goal.returns-clause-far
returns-clause-far c = written_far

pub returns-clause-none : goal.returns-clause-none
returns-clause-none c = written_none

pub returns-clause-big : goal.returns-clause-big
returns-clause-big c = written_big
