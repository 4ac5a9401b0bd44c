use Rattle.pipe_ends.proofs.StandingLemmas.{stands_for_one}
use Rattle.pipe_ends.proofs.laws.a_pipe_stands_for_one.Goals as goal

pub returns : goal.returns
returns c = stands_for_one
