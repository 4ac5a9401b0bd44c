use Rattle.std.proofs.Common.{subst}
use Rattle.lock_calls.specs.Waiting.{AreKnown}
use Rattle.lock_calls.proofs.waiting.known_or_found.Goals as goal

pub returns-in-Some : goal.returns-in-Some
returns-in-Some c = subst (AreKnown c.args.script.now c.args.objects.now) c.in-Some.is c.requires.known
