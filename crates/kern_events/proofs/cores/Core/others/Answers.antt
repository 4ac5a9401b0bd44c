use Rattle.std.proofs.Common.{sym}
use Rattle.kern_events.proofs.cores.Core.others.Goals as goal

pub returns-then-is_quiet : goal.returns-then-is_quiet
returns-then-is_quiet g c = λ s at. sym (c.is_quiet.ensures.none s at c.if-is_quiet.true)
