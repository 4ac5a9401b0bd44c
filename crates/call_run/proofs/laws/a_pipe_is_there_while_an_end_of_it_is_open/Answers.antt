use Rattle.call_run.proofs.Ends.{end_open}
use Rattle.call_run.proofs.laws.a_pipe_is_there_while_an_end_of_it_is_open.Goals as goal

pub returns : goal.returns
returns c = end_open
