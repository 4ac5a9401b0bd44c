use Rattle.std.proofs.Common.{arith}
use Rattle.std.proofs.lemmas.List.{take_all}
use Rattle.call_run.proofs.victims.frames_in.Goals as goal

pub returns-clause-frames : goal.returns-clause-frames
returns-clause-frames c = rw (take_all c.loop-entry.entry-index c.args.node.now.entries (omega arith)) at c.loop-entry.invariant.frames
