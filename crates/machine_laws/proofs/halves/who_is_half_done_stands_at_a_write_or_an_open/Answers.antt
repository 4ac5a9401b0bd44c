use Rattle.posix_defs.specs.Plain.{call_of}
use Rattle.machine_laws.proofs.Halving.{reached_half, stands_half, stands_open}
use Rattle.machine_laws.proofs.halves.who_is_half_done_stands_at_a_write_or_an_open.Goals as goal

pub returns-clause-half : goal.returns-clause-half
returns-clause-half c script plain reached pid alive some = stands_half plain.files pid (call_of script plain pid) (reached_half script plain reached pid alive some)

pub returns-clause-waits : goal.returns-clause-waits
returns-clause-waits c script plain reached pid opening alive some opens waits = stands_open script plain pid opening opens waits (reached_half script plain reached pid alive some)
