use Rattle.std.proofs.Common.{refl}
use Rattle.posix_defs.specs.Files.Closing.{after_end_of}
use Rattle.posix_defs.specs.Files.Descriptors.{none_open}
use Rattle.posix_defs.specs.Memory.{lowest_free_run, no_memory, no_places, zero_page}
use Rattle.posix_defs.specs.Needs.{bound, need_of}
use Rattle.run_pasts.specs.Turns.{turn_of}
use Rattle.run_pasts.proofs.worked.kills_are_followed.Goals as goal

pub returns-clause-all : goal.returns-clause-all
unfolding turn_of after_end_of none_open lowest_free_run no_memory no_places zero_page bound need_of
returns-clause-all c = refl

pub returns-clause-order : goal.returns-clause-order
unfolding turn_of after_end_of none_open lowest_free_run no_memory no_places zero_page bound need_of
returns-clause-order c = refl

pub returns-clause-live : goal.returns-clause-live
unfolding turn_of after_end_of none_open lowest_free_run no_memory no_places zero_page bound need_of
returns-clause-live c = refl

pub returns-clause-sleeper : goal.returns-clause-sleeper
unfolding turn_of after_end_of none_open lowest_free_run no_memory no_places zero_page bound need_of
returns-clause-sleeper c = refl

pub returns-clause-first : goal.returns-clause-first
unfolding turn_of after_end_of none_open lowest_free_run no_memory no_places zero_page bound need_of
returns-clause-first c = refl
