use Rattle.std.proofs.Common.{subst, ap}
use Rattle.std.specs.List.{AllByRecursion}
use Rattle.std.proofs.lemmas.Bool.{leb-true}
use Rattle.kern_events.specs.Sleepers.{WaitsForAtMost}
use Rattle.kern_events.proofs.Known.{waits_for_more}
use Rattle.kern_events.proofs.cores.Core.all_fit.Goals as goal

pub returns : goal.returns
returns g c = λ fits. record {
  room = c.room.result;
  whole = c.room.ensures;
  each =
      subst (AllByRecursion (λ task. WaitsForAtMost c.room.result task.phase)) (ap (λ core. core.tasks) c.self.view_is)
      (waits_for_more c.self.inside.most_asked c.room.result _ (leb-true _ _ fits) c.self.invariant.waiting);
}
