use Rattle.std.proofs.Common.{◌≡◌, ◌≤◌, ◌+◌, ◌-◌, subst, arith}
use Rattle.kern_tasks.proofs.NextRun.{within_heap}
use Rattle.kern_events.proofs.cores.Core.room.Goals as goal

pub overflow_sub-result : goal.overflow_sub-result
overflow_sub-result g c =
    let within : c.self.inside.charged ≤ (g.T.Turner.script c.self.inside.store).heap = within_heap _ _ _ _ _ _ c.self.invariant.kept in
    let same : c.self.inside.heap ≡ (g.T.Turner.script c.self.inside.store).heap = c.self.invariant.kept.same_heap in
    omega arith

pub returns : goal.returns
returns g c =
    let within : c.self.inside.charged ≤ (g.T.Turner.script c.self.inside.store).heap = within_heap _ _ _ _ _ _ c.self.invariant.kept in
    let same : c.self.inside.heap ≡ (g.T.Turner.script c.self.inside.store).heap = c.self.invariant.kept.same_heap in
    subst (λ core. c.self.inside.heap - c.self.inside.charged + core.charged ≡ (g.T.Turner.script core.store).heap) c.self.view_is (omega arith)
