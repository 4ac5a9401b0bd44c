use Rattle.std.proofs.Common.{refl}
use Rattle.std.specs.Fmt.{digits}
use Rattle.posix_defs.specs.Calls.Polling.{poll}
use Rattle.posix_defs.specs.Files.Closing.{after_end_of}
use Rattle.posix_defs.specs.Files.Descriptors.{none_open}
use Rattle.posix_defs.specs.Memory.{no_memory, no_places}
use Rattle.posix_defs.specs.Needs.{bound, need_of}
use Rattle.run_pasts.specs.Turns.{turn_of}
use Rattle.claim_lines.specs.Claims.{claim_of}
use Rattle.claim_lines.proofs.worked.lines_of_the_killed_are_good.Goals as goal

pub returns-clause-killed : goal.returns-clause-killed
unfolding claim_of turn_of digits poll after_end_of none_open no_memory no_places bound need_of
returns-clause-killed c = refl

pub returns-clause-crowded : goal.returns-clause-crowded
unfolding claim_of turn_of digits poll after_end_of none_open no_memory no_places bound need_of
returns-clause-crowded c = refl
