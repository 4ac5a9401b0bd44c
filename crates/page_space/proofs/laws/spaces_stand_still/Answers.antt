use Rattle.page_space.proofs.StandLemmas.{holds_while_another_changes, holds_while_another_forks, holds_while_another_leaves}
use Rattle.page_space.proofs.laws.spaces_stand_still.Goals as goal

pub returns-clause-changes : goal.returns-clause-changes
returns-clause-changes c = holds_while_another_changes

pub returns-clause-goes : goal.returns-clause-goes
returns-clause-goes c = holds_while_another_leaves

pub returns-clause-forks : goal.returns-clause-forks
returns-clause-forks c = holds_while_another_forks
