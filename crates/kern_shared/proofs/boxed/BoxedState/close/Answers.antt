use Rattle.kern_shared.proofs.boxed.BoxedState.close.Goals as goal

pub returns : goal.returns
returns g c = λ items past boxed shared. c.close.ensures items past (rw c.into_inner.ensures boxed.value) shared
