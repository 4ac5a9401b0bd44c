use Rattle.std.proofs.Common.{◌≤◌, subst}
use Rattle.kern_tasks.proofs.NextRun.{within_heap}
use Rattle.kern_events.proofs.cores.Core.charged.Goals as goal

pub returns-clause-within : goal.returns-clause-within
returns-clause-within g c =
    subst (λ core. c.self.inside.charged ≤ (g.T.Turner.script core.store).heap) c.self.view_is (within_heap _ _ _ _ _ _ c.self.invariant.kept)
