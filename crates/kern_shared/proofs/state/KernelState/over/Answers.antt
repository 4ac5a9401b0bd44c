use Rattle.kern_shared.specs.Shared.{IsOver}
use Rattle.kern_shared.proofs.Picking.{at_past, may_be, may_not_be, over_as}
use Rattle.kern_shared.proofs.state.KernelState.over.Goals as goal

pub returns-then-not-may_be_over : goal.returns-then-not-may_be_over
returns-then-not-may_be_over g c = λ items past s shared.
    at_past g.T.Turner.stands g.T.Turner.script g.T.Turner.beside _ _ _ _ items s past shared (λ p. IsOver g.L.RunName.script g.L.RunName.steps items p → ⊥)
    (may_not_be g.T.Turner.stands g.T.Turner.script g.T.Turner.beside _ _ _ _ items s c.may_be_over.result c.may_be_over.ensures c.if-not-may_be_over.true)

pub returns : goal.returns
returns g c = λ items past s shared.
    over_as g.L.RunName.script g.L.RunName.steps items past c.end.result
    (may_be g.T.Turner.stands g.T.Turner.script g.T.Turner.beside _ _ _ _ items s c.may_be_over.result c.may_be_over.ensures c.if-not-may_be_over.false)
    (c.end.ensures items past s shared)
