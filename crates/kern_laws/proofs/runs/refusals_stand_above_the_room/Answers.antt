use Rattle.std.proofs.Common.{◌<◌, subst}
use Rattle.posix_defs.specs.Sizes.{room}
use Rattle.kern_laws.proofs.runs.refusals_stand_above_the_room.Goals as goal

pub returns-clause-refused : goal.returns-clause-refused
returns-clause-refused c = λ script past next pid kind asked follows. (follows.is_bound, subst (λ n. room script.heap < n) follows.is_bound follows.never_fits)

pub returns-clause-answered : goal.returns-clause-answered
returns-clause-answered c = λ script past next pid kind reply follows. follows.may_run.fits_ever

pub returns-clause-moved : goal.returns-clause-moved
returns-clause-moved c = λ script past next pid kind moved follows. follows.may_run.fits_ever

pub returns-clause-slept : goal.returns-clause-slept
returns-clause-slept c = λ script past next pid kind follows. follows.may_run.fits_ever

pub returns-clause-ended : goal.returns-clause-ended
returns-clause-ended c = λ script past next pid kind status follows. follows.may_run.fits_ever
