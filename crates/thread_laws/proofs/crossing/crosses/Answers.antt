use Rattle.thread_laws.proofs.crossing.crosses.Goals as goal

pub returns : goal.returns
returns g c = c.type_bounds.send-T
