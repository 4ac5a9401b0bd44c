use Rattle.kern_shared.proofs.Loops.{alive_at, lowest_behind}
use Rattle.kern_shared.proofs.lists.lowest_ready.Goals as goal

pub loop-pid-preserved : goal.loop-pid-preserved
loop-pid-preserved g c = λ world stands alive.
    lowest_behind _ c.args.pids.now _ _ _ _ _ c.loop-pid-test.true
    (c.lower_ready-found.ensures world stands (alive_at world.plain c.args.pids.now _ _ c.loop-pid-test.true alive))
    (c.loop-pid.invariant world stands alive)
