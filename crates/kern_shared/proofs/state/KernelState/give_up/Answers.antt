use Rattle.kern_shared.proofs.Turned.{given_up_now}
use Rattle.kern_shared.proofs.state.KernelState.give_up.Goals as goal

pub returns-clause-stands : goal.returns-clause-stands
returns-clause-stands g c = λ items past s shared may.
    given_up_now g.T.Turner.stands g.T.Turner.script g.T.Turner.beside _ _ _ _ items s past shared c.args.pid c.args.kind _ _ _ _ may c.note.ensures.history c.note.ensures.held c.note.ensures.room.0 c.note.ensures.room.1
