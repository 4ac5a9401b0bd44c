use Rattle.std.proofs.Common.{ap, is_some}
use Rattle.lock_calls.proofs.setting.circles.Goals as goal

pub circle-requires : goal.circle-requires
circle-requires c = ap is_some c.requires.placed

pub returns : goal.returns
returns c = λ world stands sound. c.circle.ensures c.args.script.now world c.of.ensures stands sound
