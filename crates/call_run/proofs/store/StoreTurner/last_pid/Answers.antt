use Rattle.std.proofs.Common.{◌∙◌, ap}
use Rattle.call_run.proofs.store.StoreTurner.last_pid.Goals as goal

pub returns : goal.returns
returns g c = λ world stands. c.last_pid.ensures ∙ ap (λ store. store.objects.procs.last) c.self.view_is ∙ stands.objects.stands.processes.last
