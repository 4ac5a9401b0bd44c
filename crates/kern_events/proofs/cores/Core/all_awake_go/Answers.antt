use Rattle.std.proofs.Common.{◌≡◌, sym, ap, ◌∙◌}
use Rattle.std.specs.List.{list_all}
use Rattle.kern_tasks.specs.Room.{has_event}
use Rattle.kern_events.proofs.Known.{all_awake_there}
use Rattle.kern_events.proofs.cores.Core.all_awake_go.Goals as goal

pub returns : goal.returns
returns g c = λ e. record {
  room = c.room.result;
  whole = c.room.ensures;
  all =
      all_awake_there _ c.room.result c.args.self.now.tasks
      (ap (list_all (λ task. has_event c.room.result task.phase)) (sym (c.as_slice.ensures.value ∙ ap (λ core. core.tasks) c.self.view_is)) ∙ sym c.all_have_events.ensures ∙ e);
}
