use Rattle.std.proofs.Common.{◌≡◌, ℕ, ◌&&◌, None, drop}
use Rattle.std.specs.Prelude.{nat_le}
use Rattle.posix_defs.specs.Process.{is_alive}
use Rattle.posix_defs.specs.World.{World}
use Rattle.kern_shared.specs.Lists.{AreNeeds, lowest}
use Rattle.kern_shared.specs.Shares.{pids_of}
use Rattle.kern_shared.proofs.reliefs.lowest_alive.Given as goal

-- what was found before the place goes on to what is found in all
abbrev pub invariant-loop-other : goal.invariant-loop-other
invariant-loop-other g l =
    (world : World) (need : ℕ → ℕ) → g.T.Turner.stands l.store world → AreNeeds need l.held
    → lowest (λ pid. nat_le (need pid) l.most && is_alive world.plain.table pid) l.found (pids_of (drop l.other-index l.held))
    ≡ lowest (λ pid. nat_le (need pid) l.most && is_alive world.plain.table pid) None (pids_of l.held)
