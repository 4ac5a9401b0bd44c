use Rattle.std.proofs.Common.{◌≡◌, ◌≤◌, ◌-◌, ◌++◌, take, drop, vec_len, vec_capacity}
use Rattle.posix_defs.specs.World.{World}
use Rattle.kern_shared.specs.Lists.{alive_but}
use Rattle.kern_shared.proofs.lists.keep_alive.Given as goal

-- those before the place stay, and the others are to be looked at still
abbrev pub invariant-loop-place : goal.invariant-loop-place
invariant-loop-place g l = record {
  within : l.place ≤ vec_len l.pids;
  fewer : vec_len l.pids ≤ vec_len l.fn.pids;
  room : vec_capacity l.pids ≡ vec_capacity l.fn.pids;
  kept : (world : World) → g.T.Turner.stands l.store world
      → take l.place l.pids.items ++ alive_but world.plain l.but (drop l.place l.pids.items) ≡ alive_but world.plain l.but l.fn.pids.items;
}

abbrev pub decreases-loop-place : goal.decreases-loop-place
decreases-loop-place g l = vec_len l.pids - l.place
