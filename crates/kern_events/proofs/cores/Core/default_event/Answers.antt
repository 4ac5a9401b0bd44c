use Rattle.std.proofs.Common.{sym, ◌∙◌}
use Rattle.kern_tasks.proofs.Defaults.{default_may, default_some, is_none}
use Rattle.kern_events.proofs.cores.Core.default_event.Goals as goal

pub returns-clause-may : goal.returns-clause-may
returns-clause-may g c =
    let script = g.T.Turner.script c.args.self.now.store in
    let none = sym c.is_some.ensures ∙ c.if-is_some.false in
    default_may g.T.Turner.stands script c.args.self.now c.first_choice.result (c.ended.ensures.goes_on none) (λ s at sound. (sym (c.ended.ensures.end s at sound) ∙ is_none c.ended.result none))
    c.first_choice.ensures

pub returns-clause-none : goal.returns-clause-none
returns-clause-none g c = λ s at sound.
    let script = g.T.Turner.script c.args.self.now.store in
    let none = sym c.is_some.ensures ∙ c.if-is_some.false in
    default_some script _ _ s c.first_choice.result sound (sym (c.ended.ensures.end s at sound) ∙ is_none c.ended.result none) (c.first_choice.ensures s at sound)
