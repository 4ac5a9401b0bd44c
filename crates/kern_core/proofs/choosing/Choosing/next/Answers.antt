use Rattle.std.proofs.Common.{ap, sym, ◌∙◌, Some, suc}
use Rattle.posix_defs.specs.Generator.{choice_of, next_state, state_after}
use Rattle.kern_core.specs.Choosing.{given}
use Rattle.kern_core.proofs.PickedRuns.{state_later}
use Rattle.kern_core.proofs.choosing.Choosing.next.Goals as goal

pub returns-in-Generator-clause-rest : goal.returns-in-Generator-clause-rest
returns-in-Generator-clause-rest c = λ i.
    ap (λ x. Some (choice_of (next_state (state_after x i)))) c.next_state-next.ensures
    ∙ ap (λ x. Some (choice_of (next_state x))) (state_later c.in-Generator.state i)
    ∙ ap (λ choosing. given choosing (suc i)) (sym c.in-Generator.is)
