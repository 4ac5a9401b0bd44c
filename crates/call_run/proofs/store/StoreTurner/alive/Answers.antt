use Rattle.std.proofs.Common.{◌∙◌, ap, sym}
use Rattle.store_objects.specs.Objects.{is_running, procs_of}
use Rattle.store_objects.proofs.RunningProcs.{alive_is}
use Rattle.call_run.proofs.store.StoreTurner.alive.Goals as goal

pub returns : goal.returns
returns g c = λ world stands.
    c.runs.ensures ∙ ap (λ store. is_running (procs_of store.objects) c.args.pid) c.self.view_is
    ∙ sym (alive_is c.args.self.now.script c.args.self.now.objects world.plain c.args.pid stands.objects.stands.processes)
