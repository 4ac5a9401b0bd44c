use Rattle.std.proofs.Common.{◌≡◌, ◌<◌, false, length, ltb-true, subst, arith}
use Rattle.std.specs.List.{list_all}
use Rattle.kern_tasks.specs.Room.{is_asleep}
use Rattle.kern_tasks.proofs.Picked.{not_as_many}
use Rattle.kern_events.proofs.cores.Core.some_awake.Goals as goal

pub returns : goal.returns
returns g c = λ e.
    let less : c.self.inside.asleep < c.len.result = ltb-true _ _ e in
    let fewer : c.self.inside.asleep < length c.self.inside.tasks.items = omega (arith, c.len.ensures, c.self.inside.tasks.ok.0) in
    subst (λ core. list_all (λ task. is_asleep task.phase) core.tasks ≡ false) c.self.view_is
    (not_as_many (λ task. is_asleep task.phase) _ _ c.self.invariant.counted fewer)
