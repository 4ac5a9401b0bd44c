use Rattle.std.proofs.Common.{◌∙◌, ap, sym, subst}
use Rattle.store_objects.specs.Standing.{StandsFor}
use Rattle.store_objects.proofs.LiveIs.{live_is}
use Rattle.call_run.specs.Stores.{Stands}
use Rattle.call_run.proofs.store.StoreTurner.live.Goals as goal

pub returns-clause-bytes : goal.returns-clause-bytes
returns-clause-bytes g c = λ world stands.
    c.live.ensures.value ∙ live_is c.self.inside.script c.self.inside.objects world
    (subst (λ store. StandsFor store.script store.objects world) (sym c.self.view_is) stands.objects.stands) c.heap_is_well_formed.ensures

pub returns-clause-rests : goal.returns-clause-rests
returns-clause-rests g c = λ world stands.
    let at = subst (λ store. Stands store world) (sym c.self.view_is) stands in
    sym (live_is c.self.inside.script c.self.inside.objects world at.objects.stands c.heap_is_well_formed.ensures) ∙ sym at.rests ∙ ap (λ store. store.objects.heap.high) c.self.view_is
