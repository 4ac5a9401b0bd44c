use Rattle.std.proofs.Common.{ap, not, subst, sym, ◌∙◌}
use Rattle.machine_laws.specs.Reached.{IsReached}
use Rattle.posix_defs.specs.Machine.{would_block}
use Rattle.store_objects.specs.Standing.{StandsFor}
use Rattle.call_run.specs.Stores.{Stands}
use Rattle.call_run.proofs.SettledBlocks.{told_blocks}
use Rattle.call_run.proofs.store.StoreTurner.ready.Goals as goal

pub goes_on-requires-clause-stands : goal.goes_on-requires-clause-stands
goes_on-requires-clause-stands g c =
    let some = c.requires in (some.0, subst (λ store. StandsFor store.script store.objects some.0) (sym c.self.view_is) some.1.objects.stands, some.2)

pub returns-in-None : goal.returns-in-None
returns-in-None g c = λ world stands alive.
    let at : StandsFor c.self.inside.script c.self.inside.objects world = subst (λ store. StandsFor store.script store.objects world) (sym c.self.view_is) stands.objects.stands in
    c.goes_on.ensures.goes world at (subst (λ store. IsReached store.script world.plain) (sym c.self.view_is) stands.objects.reached) alive ∙ ap (λ store. not (would_block store.script world.plain c.args.pid)) c.self.view_is

pub returns-in-Some : goal.returns-in-Some
returns-in-Some g c = λ world stands alive.
    let before = subst (λ store. Stands store world) (sym c.self.view_is) stands in
    sym (ap not (told_blocks c.self.inside.script world.plain c.self.inside.sleepers.told c.args.pid _ (let told = before.told in told.each) (sym c.told.ensures ∙ c.in-Some.is)))
    ∙ ap (λ store. not (would_block store.script world.plain c.args.pid)) c.self.view_is
