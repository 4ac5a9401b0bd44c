use Rattle.std.proofs.Common.{◌∙◌}
use Rattle.plain_memory.proofs.Bytes.{all_unmapped}
use Rattle.plain_memory.proofs.spaces.Space.clear.Goals as goal

pub returns : goal.returns
returns c = c.unmap.ensures ∙ all_unmapped c.args.self.now (rw (← c.self.view_is) c.self.invariant)
