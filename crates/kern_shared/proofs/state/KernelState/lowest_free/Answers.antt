use Rattle.std.proofs.Common.{sym, subst}
use Rattle.kern_shared.specs.Lists.{AreAlive}
use Rattle.kern_shared.specs.Picks.{IsLowestFree}
use Rattle.kern_shared.proofs.Picking.{at_past, dozing_alive, lowest_says}
use Rattle.kern_shared.proofs.state.KernelState.lowest_free.Goals as goal

pub lowest_ready-requires : goal.lowest_ready-requires
lowest_ready-requires g c =
    let s = c.requires.1 in
    (s.world, s.stands, subst (AreAlive s.world.plain) (sym c.as_slice-3.ensures.value) (dozing_alive g.T.Turner.stands g.T.Turner.script g.T.Turner.beside _ _ _ _ _ s))

pub returns : goal.returns
returns g c = λ items past s shared.
    at_past g.T.Turner.stands g.T.Turner.script g.T.Turner.beside _ _ _ _ items s past shared (λ p. IsLowestFree g.L.RunName.script items p c.lowest_ready.result)
    (lowest_says g.T.Turner.stands g.T.Turner.script g.T.Turner.beside _ _ _ _ items s _ _ _ _ _ c.lowest_ready.result
    c.as_slice.ensures.value c.as_slice-2.ensures.value c.as_slice-3.ensures.value c.as_slice-4.ensures.value c.lowest_unheld-found.ensures
    (c.lowest_ready.ensures s.world s.stands (subst (AreAlive s.world.plain) (sym c.as_slice-3.ensures.value) (dozing_alive g.T.Turner.stands g.T.Turner.script g.T.Turner.beside _ _ _ _ items s))))
