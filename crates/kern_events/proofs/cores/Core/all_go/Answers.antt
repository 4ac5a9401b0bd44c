use Rattle.std.proofs.Common.{◌≡◌, ◌+◌, length, sym, subst, ap, ◌∙◌, arith}
use Rattle.std.specs.List.{AllByRecursion}
use Rattle.posix_defs.specs.SoundTasks.{TaskFits}
use Rattle.kern_laws.proofs.Sounds.{is_sound}
use Rattle.kern_tasks.proofs.Picked.{none_dozes}
use Rattle.kern_events.specs.Sleepers.{NoneDozes}
use Rattle.kern_events.proofs.Known.{all_go_there}
use Rattle.kern_events.proofs.cores.Core.all_go.Goals as goal

pub returns-then-all_fit : goal.returns-then-all_fit
returns-then-all_fit g c = λ e.
    let script = g.T.Turner.script c.args.self.now.store in
    let here = c.self.invariant.kept.has_run in
    let plain = here.state.world.plain in
    let fit = c.all_fit.ensures c.if-all_fit.true in
    let same : here.state.tasks ≡ c.args.self.now.tasks = here.is_at.tasks ∙ ap (λ core. core.tasks) c.self.view_is in
    let whole : c.self.inside.asleep + length c.self.inside.runnable.items ≡ length c.self.inside.tasks.items =
    omega (arith, c.len.ensures, c.len-2.ensures, c.self.inside.runnable.ok.0, c.self.inside.tasks.ok.0) in
    let dozes : NoneDozes (g.T.Turner.settled c.args.self.now.store) c.args.self.now.tasks =
    subst (λ core. NoneDozes (g.T.Turner.settled core.store) core.tasks) c.self.view_is
    (none_dozes (g.T.Turner.settled c.self.inside.store) c.self.inside.tasks.items _ _ c.self.invariant.counted c.self.invariant.placed whole) in
    record {
      room = fit.room;
      whole = fit.whole;
      all =
          all_go_there script plain (g.T.Turner.settled c.args.self.now.store) fit.room c.args.self.now.tasks
          (subst (AllByRecursion (TaskFits script plain)) same (subst (λ core. AllByRecursion (TaskFits (g.T.Turner.script core.store) plain) here.state.tasks) c.self.view_is (is_sound here.runs).each))
          dozes fit.each;
    }
