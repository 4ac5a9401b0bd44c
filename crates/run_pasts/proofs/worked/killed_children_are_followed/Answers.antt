use Rattle.std.proofs.Common.{refl}
use Rattle.posix_defs.specs.Calls.Polling.{poll}
use Rattle.posix_defs.specs.Files.Closing.{after_end_of}
use Rattle.posix_defs.specs.Files.Descriptors.{none_open}
use Rattle.posix_defs.specs.Memory.{lowest_free_run, no_memory, no_places, zero_page}
use Rattle.posix_defs.specs.Needs.{bound, need_of}
use Rattle.run_pasts.specs.Turns.{turn_of}
use Rattle.run_pasts.proofs.worked.killed_children_are_followed.Goals as goal

pub returns-clause-all : goal.returns-clause-all
unfolding turn_of poll after_end_of none_open lowest_free_run no_memory no_places zero_page bound need_of
returns-clause-all c = refl

pub returns-clause-again : goal.returns-clause-again
unfolding turn_of poll after_end_of none_open lowest_free_run no_memory no_places zero_page bound need_of
returns-clause-again c = refl

pub returns-clause-exit : goal.returns-clause-exit
unfolding turn_of poll after_end_of none_open lowest_free_run no_memory no_places zero_page bound need_of
returns-clause-exit c = refl

pub returns-clause-twice : goal.returns-clause-twice
unfolding turn_of poll after_end_of none_open lowest_free_run no_memory no_places zero_page bound need_of
returns-clause-twice c = refl

pub returns-clause-living : goal.returns-clause-living
unfolding turn_of poll after_end_of none_open lowest_free_run no_memory no_places zero_page bound need_of
returns-clause-living c = refl

pub returns-clause-kind : goal.returns-clause-kind
unfolding turn_of poll after_end_of none_open lowest_free_run no_memory no_places zero_page bound need_of
returns-clause-kind c = refl
