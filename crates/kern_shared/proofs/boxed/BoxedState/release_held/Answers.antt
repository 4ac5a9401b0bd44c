use Rattle.std.proofs.Common.{refl, ap, ◌∙◌}
use Rattle.kern_shared.proofs.Boxing.{boxed_back}
use Rattle.kern_shared.proofs.boxed.BoxedState.release_held.Goals as goal

pub returns-clause-stands : goal.returns-clause-stands
returns-clause-stands g c = λ items boxed given.
    boxed_back _ g.L.RunName.script g.L.RunName.steps _ items _ _ _ _ _ c.args.pid boxed refl
    (ap (λ s. s.known.reserves) (c.release_held.ensures.seat ∙ ap (λ v. v.seat) c.deref_mut.ensures.value))
    (c.release_held.ensures.stands items (rw c.deref_mut.ensures.value boxed.value) given)
