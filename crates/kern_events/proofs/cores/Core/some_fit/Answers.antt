use Rattle.std.proofs.Common.{sym, ap, ◌∙◌}
use Rattle.kern_tasks.proofs.RoomFits.{some_fit}
use Rattle.kern_events.proofs.cores.Core.some_fit.Goals as goal

pub returns : goal.returns
returns g c = λ s at.
    c.some_within.ensures ∙ some_fit (g.T.Turner.script c.args.self.now.store) s _ _ _ (at.tasks ∙ sym (c.as_slice.ensures.value ∙ ap (λ core. core.tasks) c.self.view_is)) at.charged c.room.ensures
