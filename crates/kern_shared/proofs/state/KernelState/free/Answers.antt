use Rattle.std.proofs.Common.{◌≡◌, ◌+◌, ◌*◌, refl, sym, ◌∙◌}
use Rattle.posix_defs.specs.World.{base, pins}
use Rattle.kern_shared.proofs.Picking.{at_past}
use Rattle.kern_shared.proofs.Relieved.{full_beside, none_lost, starves_now, vain_here, victim_here_none}
use Rattle.kern_shared.proofs.Relieving.{bare_live}
use Rattle.kern_shared.proofs.state.KernelState.free.Goals as goal

pub returns-in-Some-clause-stands : goal.returns-in-Some-clause-stands
returns-in-Some-clause-stands g c = λ items past s shared vain. c.clear.ensures.stands items past c.args.waiter c.args.need s shared vain

pub returns-in_default-victim-clause-stands : goal.returns-in_default-victim-clause-stands
returns-in_default-victim-clause-stands g c = λ items past s shared vain.
    let may = vain_here g.T.Turner.stands g.T.Turner.script g.T.Turner.beside _ _ _ _ items s past shared c.args.waiter c.args.need c.args.live vain in
    let live = c.requires.live s.world s.stands in
    let bare = none_lost s.world (sym (c.first_that_loses.ensures s.world s.stands) ∙ c.in_default.is) in
    let none = victim_here_none g.T.Turner.stands g.T.Turner.script g.T.Turner.beside _ _ _ _ items s (sym (c.victim.ensures s.world s.stands) ∙ c.in_default-victim.is) in
    starves_now g.T.Turner.stands g.T.Turner.script g.T.Turner.beside _ _ _ _ items s c.args.waiter may.waits.0.given may.waits.1 may.waits.0.fits_ever
    (full_beside g.T.Turner.stands g.T.Turner.script g.T.Turner.beside _ _ _ _ items s c.args.waiter c.args.need c.args.live live may) bare none

pub returns-in_default-victim-clause-told : goal.returns-in_default-victim-clause-told
returns-in_default-victim-clause-told g c = λ items past s shared vain.
    let bare = none_lost s.world (sym (c.first_that_loses.ensures s.world s.stands) ∙ c.in_default.is) in (
      at_past g.T.Turner.stands g.T.Turner.script g.T.Turner.beside _ _ _ _ items s past shared (λ p. c.args.live ≡ base p.plain p.account + 128 * pins p.plain)
          (bare_live g.T.Turner.stands g.T.Turner.script g.T.Turner.beside _ _ _ _ items s c.args.live (c.requires.live s.world s.stands) bare),
      refl,
    )
