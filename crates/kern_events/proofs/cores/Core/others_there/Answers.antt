use Rattle.kern_tasks.proofs.OtherEvents.{are_others}
use Rattle.kern_events.proofs.cores.Core.others_there.Goals as goal

pub returns : goal.returns
returns g c = λ s at. are_others (g.T.Turner.script c.args.self.now.store) s _ _ _ _ (c.evict_event.ensures s at) (c.evict_event-2.ensures s at) (c.evict_event-3.ensures s at) (c.kill_event.ensures s at)
