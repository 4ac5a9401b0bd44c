use Rattle.pipe_ends.proofs.StandingLemmas.{stands_on, stands_same}
use Rattle.pipe_ends.proofs.laws.a_pipe_goes_on.Goals as goal

pub returns : goal.returns
returns c = record { same = stands_same; kept = stands_on }
