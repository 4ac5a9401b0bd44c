use Rattle.std.proofs.Common.{◌≡◌, drop}
use Rattle.std.specs.List.{list_all}
use Rattle.posix_defs.specs.Machine.{would_block}
use Rattle.posix_defs.specs.World.{World}
use Rattle.kern_shared.specs.Lists.{AreAlive}
use Rattle.kern_shared.proofs.lists.all_block.Given as goal

-- all before the place block
abbrev pub invariant-loop-pid : goal.invariant-loop-pid
invariant-loop-pid g l =
    (world : World) → g.T.Turner.stands l.store world → AreAlive world.plain l.pids
    → list_all (λ pid. would_block (g.T.Turner.script l.store) world.plain pid) (drop l.pid-index l.pids)
    ≡ list_all (λ pid. would_block (g.T.Turner.script l.store) world.plain pid) l.pids
