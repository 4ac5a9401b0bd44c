use Rattle.std.proofs.Common.{ap, is_some}
use Rattle.store_objects.proofs.RunningProcs.{alive_runs}
use Rattle.call_run.proofs.touching.place_there.Goals as goal

pub key_there-key-requires-clause-stored : goal.key_there-key-requires-clause-stored
key_there-key-requires-clause-stored c = let some = c.requires in some.2.kept.holds.stored

pub key_there-key-requires-clause-there : goal.key_there-key-requires-clause-there
key_there-key-requires-clause-there c =
    let some = c.requires in ap is_some (alive_runs some.1 c.args.objects.now some.0.plain c.args.pid some.2.processes some.3).there
