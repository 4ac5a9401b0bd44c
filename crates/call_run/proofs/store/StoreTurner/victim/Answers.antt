use Rattle.std.proofs.Common.{◌∙◌, ap, subst, sym}
use Rattle.posix_defs.specs.Victim.{victim_of}
use Rattle.store_objects.specs.Standing.{StandsFor}
use Rattle.call_run.proofs.store.StoreTurner.victim.Goals as goal

pub returns : goal.returns
returns g c = λ world stands.
    let at = subst (λ store. StandsFor store.script store.objects world) (sym c.self.view_is) stands.objects.stands in
    c.victim.ensures c.self.inside.script world at
    ∙ ap (λ store. victim_of store.script.policy world.plain world.account) c.self.view_is
