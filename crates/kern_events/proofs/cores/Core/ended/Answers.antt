use Rattle.std.proofs.Common.{◌≡◌, ◌≢◌, ◌<◌, sym, ap, ◌∙◌, arith}
use Rattle.posix_defs.specs.CoreState.{reserved_in}
use Rattle.kern_tasks.proofs.NextRun.{may_go_on}
use Rattle.kern_events.proofs.AtRest.{none_is, only_spent}
use Rattle.kern_events.proofs.cores.Core.ended.Goals as goal

pub returns-then-self-ne0-clause-end : goal.returns-then-self-ne0-clause-end
returns-then-self-ne0-clause-end g c = λ s at sound.
    let some : c.self.inside.reserved ≢ 0 = c.if-self-ne0.true in
    let held : reserved_in s.tasks ≡ c.self.inside.reserved = at.reserved ∙ sym (ap (λ core. core.reserved) c.self.view_is) in
    let more : 0 < reserved_in s.tasks = omega arith in
    c.spent.ensures ∙ sym (only_spent (g.T.Turner.script c.args.self.now.store) c.args.self.now.steps _ s more)

pub returns-then-self-ne0-clause-goes_on : goal.returns-then-self-ne0-clause-goes_on
returns-then-self-ne0-clause-goes_on g c = λ none.
    may_go_on g.T.Turner.stands g.T.Turner.script _ c.args.self.now _ _ _ c.self.view_is c.self.invariant.kept
    (λ s at sound. sym (none_is _ none) ∙ returns-then-self-ne0-clause-end g c s at sound)

pub returns-in-None-clause-goes_on : goal.returns-in-None-clause-goes_on
returns-in-None-clause-goes_on g c = λ none.
    may_go_on g.T.Turner.stands g.T.Turner.script _ c.args.self.now _ _ _ c.self.view_is c.self.invariant.kept
    (λ s at sound. sym (none_is _ none) ∙ c.spent-in-None.ensures ∙ sym (c.in-None.ensures s at sound c.args.self.now.steps _))
