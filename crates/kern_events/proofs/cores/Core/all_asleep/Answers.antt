use Rattle.std.proofs.Common.{sym, ap, ◌∙◌}
use Rattle.std.specs.List.{list_all}
use Rattle.posix_defs.specs.Ends.{sleeps_on}
use Rattle.kern_tasks.proofs.AllEvents.{not_all_asleep}
use Rattle.kern_events.proofs.cores.Core.all_asleep.Goals as goal

pub returns-then-some_awake : goal.returns-then-some_awake
returns-then-some_awake g c = λ s at sound.
    let script = g.T.Turner.script c.args.self.now.store in
    sym (ap (list_all (λ task. sleeps_on script s task.pid task.phase)) at.tasks
    ∙ not_all_asleep script s c.args.self.now.tasks (c.some_awake.ensures c.if-some_awake.true))
