use Rattle.std.proofs.Common.{arith}
use Rattle.plain_memory.proofs.Bytes.{nothing_mapped}
use Rattle.plain_memory.proofs.spaces.Space.new.Goals as goal

pub returns : goal.returns
returns c = nothing_mapped c.loop.pages.items c.loop.counter c.loop.invariant (omega arith)
