use Rattle.std.proofs.Common.{◌≡◌, not, None, drop}
use Rattle.kern_shared.specs.Lists.{is_held, lowest}
use Rattle.kern_shared.proofs.lists.lowest_unheld.Given as goal

-- what was found before the place goes on to what is found in all
abbrev pub invariant-loop-pid : goal.invariant-loop-pid
invariant-loop-pid l = lowest (λ pid. not (is_held pid l.held)) l.found (drop l.pid-index l.pids) ≡ lowest (λ pid. not (is_held pid l.held)) None l.pids
