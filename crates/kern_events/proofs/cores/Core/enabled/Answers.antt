use Rattle.std.proofs.Common.{slice_get, ap, ◌∙◌}
use Rattle.kern_tasks.proofs.TaskLoops.{can_take, may_be_taken}
use Rattle.kern_events.proofs.cores.Core.enabled.Goals as goal

pub returns-in-Ok-clause-may : goal.returns-in-Ok-clause-may
returns-in-Ok-clause-may g c = can_take g.T.Turner.stands _ _ c.args.i _ c.task_event.ensures.runs c.in-Ok.ensures.found

pub returns-in-Err-clause-may : goal.returns-in-Err-clause-may
returns-in-Err-clause-may g c =
    may_be_taken g.T.Turner.stands _ _ c.args.i _ c.task_event.ensures.runs
    (λ s at sound. c.present_at.ensures ∙ ap (λ events. slice_get events c.in-Err.left) (c.others.ensures s at) ∙ c.in-Err.ensures.found s at sound)
