use Rattle.std.proofs.Common.{ap, not}
use Rattle.posix_defs.specs.Plain.{call_of}
use Rattle.call_run.proofs.Sound.{sound}
use Rattle.call_run.proofs.sleepers.goes_on.Goals as goal

pub returns-clause-goes : goal.returns-clause-goes
returns-clause-goes c = λ world stands reached alive.
    ap not (c.would_block.ensures.blocks world stands (sound c.args.script.now world.plain stands.valid reached) (call_of c.args.script.now world.plain c.args.pid) (c.waits_for-wait.ensures world stands alive))
