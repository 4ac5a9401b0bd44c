use Rattle.std.proofs.Common.{refl}
use Rattle.posix_defs.specs.Calls.OnNames.{mkdir}
use Rattle.posix_defs.specs.Files.Closing.{after_end_of}
use Rattle.posix_defs.specs.Files.Descriptors.{none_open}
use Rattle.posix_defs.specs.Memory.{lowest_free_run, no_memory, no_places, zero_page}
use Rattle.posix_defs.specs.Needs.{bound, need_of}
use Rattle.run_pasts.specs.Turns.{turn_of}
use Rattle.run_pasts.proofs.worked.evictions_are_followed.Goals as goal

pub returns : goal.returns
unfolding turn_of mkdir after_end_of none_open lowest_free_run no_memory no_places zero_page bound need_of
returns c = refl
