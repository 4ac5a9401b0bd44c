use Rattle.std.proofs.Common.{◌≡◌, ◌&&◌, not, drop}
use Rattle.posix_defs.specs.Machine.{would_block}
use Rattle.posix_defs.specs.World.{World}
use Rattle.kern_shared.specs.Lists.{AreAlive, is_held, lowest}
use Rattle.kern_shared.proofs.lists.lowest_ready.Given as goal

-- what was found before the place goes on to what is found in all
abbrev pub invariant-loop-pid : goal.invariant-loop-pid
invariant-loop-pid g l =
    (world : World) → g.T.Turner.stands l.store world → AreAlive world.plain l.pids
    → lowest (λ pid. not (is_held pid l.held) && not (would_block (g.T.Turner.script l.store) world.plain pid)) l.found (drop l.pid-index l.pids)
    ≡ lowest (λ pid. not (is_held pid l.held) && not (would_block (g.T.Turner.script l.store) world.plain pid)) l.fn.before l.pids
