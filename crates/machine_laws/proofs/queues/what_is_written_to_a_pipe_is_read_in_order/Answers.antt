use Rattle.machine_laws.proofs.PipeQueues.{others, puts, takes}
use Rattle.machine_laws.proofs.queues.what_is_written_to_a_pipe_is_read_in_order.Goals as goal

pub returns-clause-put : goal.returns-clause-put
returns-clause-put c = λ script plain pid fd addr n done opened place pipe named on there. puts script plain pid fd addr n opened place pipe named on there done

pub returns-clause-taken : goal.returns-clause-taken
returns-clause-taken c = λ script plain pid fd addr n opened place pipe named on there. takes script plain pid fd addr n opened place pipe named on there

pub returns-clause-others : goal.returns-clause-others
returns-clause-others c = others
