use Rattle.std.proofs.Common.{subst, ◌∙◌}
use Rattle.kern_tasks.specs.View.{Took}
use Rattle.kern_tasks.proofs.LastNoted.{noted_last, some_noted}
use Rattle.kern_events.proofs.cores.Core.step.Goals as goal

pub last_noted-requires : goal.last_noted-requires
last_noted-requires g c = some_noted _ _ _ (c.run.ensures.same ∙ c.take.ensures.took.1.run)

pub returns-clause-took : goal.returns-clause-took
returns-clause-took g c =
    subst (λ noted. Took g.T.Turner.stands (g.T.Turner.script c.args.self.now.store) c.args.self.now c.args.event noted c.take.new.self)
    (noted_last _ _ _ _ (c.run.ensures.same ∙ c.take.ensures.took.1.run) c.last_noted.ensures) c.take.ensures.took.1
