use Rattle.kern_shared.proofs.Boxing.{boxed_relieved}
use Rattle.kern_shared.proofs.boxed.BoxedState.relieve_now.Goals as goal

pub relieve_now-relief-requires-clause-stands : goal.relieve_now-relief-requires-clause-stands
relieve_now-relief-requires-clause-stands g c = rw c.deref_mut.ensures.value (c.requires.stands.0, c.requires.stands.1.value)

pub returns-clause-stands : goal.returns-clause-stands
returns-clause-stands g c = λ items boxed.
    let nothing = rw c.deref_mut.ensures.value at c.relieve_now-relief.ensures.nothing in
    boxed_relieved _ g.L.RunName.script g.L.RunName.steps _ items _ _ _ _ _ c.relieve_now-relief.result.1 boxed c.still_idle-self.ensures nothing
    (c.relieve_now-relief.ensures.stands items (rw c.deref_mut.ensures.value boxed.value))

pub returns-clause-relieves : goal.returns-clause-relieves
returns-clause-relieves g c = λ items past boxed shared. c.relieve_now-relief.ensures.relieves items past (rw c.deref_mut.ensures.value boxed.value) shared
