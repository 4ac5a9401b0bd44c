use Rattle.machine_laws.proofs.Wholeness.{fifos}
use Rattle.machine_laws.proofs.fifos.a_fifo_has_one_pipe.Goals as goal

pub returns : goal.returns
returns c = fifos
