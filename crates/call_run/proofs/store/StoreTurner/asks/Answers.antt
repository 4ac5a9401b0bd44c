use Rattle.std.proofs.Common.{◌∙◌, ap, subst, sym}
use Rattle.posix_defs.specs.Plain.{call_of}
use Rattle.prog_ctl.specs.Waits.{asked_for}
use Rattle.store_objects.specs.Standing.{StandsFor}
use Rattle.call_run.proofs.store.StoreTurner.asks.Goals as goal

pub asks-requires : goal.asks-requires
asks-requires g c =
    let some = c.requires in (some.0, subst (λ store. StandsFor store.script store.objects some.0) (sym c.self.view_is) some.1.objects.stands, some.2)

pub returns : goal.returns
returns g c = λ world stands alive.
    c.asks.ensures world (subst (λ store. StandsFor store.script store.objects world) (sym c.self.view_is) stands.objects.stands) alive
    ∙ ap (λ store. asked_for (call_of store.script world.plain c.args.pid)) c.self.view_is
