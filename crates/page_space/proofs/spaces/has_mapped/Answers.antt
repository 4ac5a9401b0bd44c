use Rattle.std.proofs.Common.{arith}
use Rattle.std.proofs.lemmas.List.{take_all}
use Rattle.page_space.proofs.spaces.has_mapped.Goals as goal

pub returns : goal.returns
returns c = rw (take_all c.loop-entry.entry-index c.args.node.now.entries (omega arith)) at c.loop-entry.invariant
