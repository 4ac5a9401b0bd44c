use Rattle.std.proofs.Common.{ap}
use Rattle.posix_defs.specs.Control.{call_at, settled}
use Rattle.prog_ctl.proofs.laws.a_program_ends_by_exit_0.Goals as goal

pub returns : goal.returns
returns c = λ script control none. ap (call_at (settled script control)) none
