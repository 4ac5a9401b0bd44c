use Rattle.std.proofs.Common.{ap, is_some}
use Rattle.lock_calls.proofs.waiting.circles.Goals as goal

pub circle-requires : goal.circle-requires
circle-requires c = ap is_some c.requires.there

pub returns-clause-known : goal.returns-clause-known
returns-clause-known c = c.known_or_found-known.ensures

pub returns-clause-circles : goal.returns-clause-circles
returns-clause-circles c = λ world stands sound. c.circle.ensures c.args.script.now world c.known_or_found-known.ensures stands sound
