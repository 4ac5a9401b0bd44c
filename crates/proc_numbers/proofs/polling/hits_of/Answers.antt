use Rattle.std.proofs.Common.{arith}
use Rattle.std.proofs.lemmas.List.{take_all}
use Rattle.proc_numbers.proofs.polling.hits_of.Goals as goal

pub returns : goal.returns
returns c = rw (take_all c.loop-events.events-index c.args.revents.now (omega arith)) at c.loop-events.invariant.count
