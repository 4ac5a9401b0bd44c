use Rattle.std.proofs.Common.{refl}
use Rattle.std.specs.Fmt.{digits}
use Rattle.posix_defs.specs.Files.Closing.{after_end_of}
use Rattle.posix_defs.specs.Files.Descriptors.{none_open}
use Rattle.posix_defs.specs.Memory.{no_memory, no_places}
use Rattle.posix_defs.specs.Needs.{bound, need_of}
use Rattle.run_pasts.specs.Turns.{turn_of}
use Rattle.claim_lines.specs.Claims.{claim_of}
use Rattle.claim_lines.proofs.worked.first_lines_are_good.Goals as goal

pub returns-clause-all : goal.returns-clause-all
unfolding claim_of turn_of digits after_end_of none_open no_memory no_places bound need_of
returns-clause-all c = refl

pub returns-clause-pid : goal.returns-clause-pid
unfolding claim_of turn_of digits after_end_of none_open no_memory no_places bound need_of
returns-clause-pid c = refl

pub returns-clause-refused : goal.returns-clause-refused
unfolding claim_of turn_of digits after_end_of none_open no_memory no_places bound need_of
returns-clause-refused c = refl

pub returns-clause-number : goal.returns-clause-number
unfolding claim_of turn_of digits after_end_of none_open no_memory no_places bound need_of
returns-clause-number c = refl

pub returns-clause-longer : goal.returns-clause-longer
unfolding claim_of turn_of digits after_end_of none_open no_memory no_places bound need_of
returns-clause-longer c = refl

pub returns-clause-padded : goal.returns-clause-padded
unfolding claim_of turn_of digits after_end_of none_open no_memory no_places bound need_of
returns-clause-padded c = refl

pub returns-clause-short : goal.returns-clause-short
unfolding claim_of turn_of digits after_end_of none_open no_memory no_places bound need_of
returns-clause-short c = refl
