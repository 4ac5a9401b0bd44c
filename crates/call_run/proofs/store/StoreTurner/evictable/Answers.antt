use Rattle.std.proofs.Common.{sym, subst}
use Rattle.store_objects.specs.Standing.{StandsFor}
use Rattle.call_run.proofs.store.StoreTurner.evictable.Goals as goal

pub evictable-requires : goal.evictable-requires
evictable-requires g c = c.self.invariant.caches

pub returns : goal.returns
returns g c = λ world stands.
    c.evictable.ensures c.self.inside.script world (subst (λ store. StandsFor store.script store.objects world) (sym c.self.view_is) stands.objects.stands)
