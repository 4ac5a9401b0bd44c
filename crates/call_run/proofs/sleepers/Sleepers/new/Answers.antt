use Rattle.std.proofs.Common.{sym, subst}
use Rattle.call_run.specs.Sleepers.{AreRising}
use Rattle.call_run.proofs.Channels.{none_of_none}
use Rattle.call_run.proofs.sleepers.Sleepers.new.Goals as goal

pub invariant_of-result : goal.invariant_of-result
invariant_of-result c = record { rising = subst (AreRising 0) (sym c.new.ensures) tt; closed = λ _. none_of_none 32 }

pub returns-clause-channels : goal.returns-clause-channels
returns-clause-channels c = none_of_none 32
