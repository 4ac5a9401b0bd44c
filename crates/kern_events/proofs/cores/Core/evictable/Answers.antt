use Rattle.std.proofs.Common.{subst, ◌∙◌}
use Rattle.kern_events.specs.Evictables.{AreEvictable}
use Rattle.kern_events.proofs.cores.Core.evictable.Goals as goal

pub returns : goal.returns
returns g c = λ s at.
    c.has.ensures ∙ subst (λ core. AreEvictable g.T.Turner.stands core.store c.self.inside.evictables) c.self.view_is c.self.invariant.caches s.world c.args.what at.stands
