use Rattle.std.proofs.Common.{refl}
use Rattle.kern_laws.proofs.runs.the_generator_is_this_one.Goals as goal

pub returns-clause-seven : goal.returns-clause-seven
returns-clause-seven c = refl

pub returns-clause-choice : goal.returns-clause-choice
returns-clause-choice c = refl

pub returns-clause-zero : goal.returns-clause-zero
returns-clause-zero c = refl

pub returns-clause-one : goal.returns-clause-one
returns-clause-one c = refl
