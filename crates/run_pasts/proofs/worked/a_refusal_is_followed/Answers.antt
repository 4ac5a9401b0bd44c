use Rattle.std.proofs.Common.{refl}
use Rattle.posix_defs.specs.Calls.Reading.{read}
use Rattle.posix_defs.specs.Files.Closing.{after_end_of}
use Rattle.posix_defs.specs.Files.Descriptors.{none_open}
use Rattle.posix_defs.specs.Memory.{lowest_free_run, no_memory, no_places, zero_page}
use Rattle.posix_defs.specs.Needs.{bound, need_of}
use Rattle.run_pasts.specs.Turns.{turn_of}
use Rattle.run_pasts.proofs.worked.a_refusal_is_followed.Goals as goal

pub returns-clause-all : goal.returns-clause-all
unfolding turn_of read after_end_of none_open lowest_free_run no_memory no_places zero_page bound need_of
returns-clause-all c = refl

pub returns-clause-bound : goal.returns-clause-bound
unfolding turn_of read after_end_of none_open lowest_free_run no_memory no_places zero_page bound need_of
returns-clause-bound c = refl
