use Rattle.call_run.proofs.Channels.{none_of_none}
use Rattle.call_run.proofs.sleepers.Sleepers.forget_channels.Goals as goal

pub invariant_of-self : goal.invariant_of-self
invariant_of-self c = record { rising = c.self.invariant.rising; closed = λ _. none_of_none 32 }

pub returns-then-self-clause-channels : goal.returns-then-self-clause-channels
returns-then-self-clause-channels c = none_of_none 32
