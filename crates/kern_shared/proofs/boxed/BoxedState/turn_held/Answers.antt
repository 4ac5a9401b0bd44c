use Rattle.std.proofs.Common.{refl}
use Rattle.kern_shared.proofs.Boxing.{boxed_turned}
use Rattle.kern_shared.proofs.boxed.BoxedState.turn_held.Goals as goal

pub turn_held-requires-clause-held : goal.turn_held-requires-clause-held
turn_held-requires-clause-held g c = rw c.deref_mut.ensures.value (c.requires.held.0, c.requires.held.1.value, c.requires.held.2)

pub returns-clause-stands : goal.returns-clause-stands
returns-clause-stands g c = λ items boxed has.
    let taken = rw c.deref_mut.ensures.value at c.turn_held.ensures.takes_in in
    boxed_turned _ g.L.RunName.script g.L.RunName.steps _ items _ _ _ _ c.args.own.now.known _ c.args.pid c.args.call.now c.turn_held.result boxed refl c.requires.reserved
    taken (c.turn_held.ensures.tells items (rw c.deref_mut.ensures.value boxed.value)) (c.turn_held.ensures.stands items (rw c.deref_mut.ensures.value boxed.value) has)

pub returns-clause-tells : goal.returns-clause-tells
returns-clause-tells g c = λ items boxed. c.turn_held.ensures.tells items (rw c.deref_mut.ensures.value boxed.value)
