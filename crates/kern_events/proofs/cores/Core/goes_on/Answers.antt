use Rattle.std.proofs.Common.{◌≡◌, not, sym, subst}
use Rattle.posix_defs.specs.Machine.{would_block}
use Rattle.posix_defs.specs.CoreState.{CoreState}
use Rattle.posix_defs.specs.SoundTasks.{IsSound}
use Rattle.kern_laws.proofs.Sounds.{is_sound}
use Rattle.kern_tasks.specs.View.{Has, IsAt}
use Rattle.kern_events.proofs.Known.{sleeper_alive}
use Rattle.kern_events.proofs.cores.Core.goes_on.Goals as goal

pub ready-requires : goal.ready-requires
ready-requires g c =
    let has = subst (λ core. Has core.tasks c.args.task) (sym c.self.view_is) c.requires.at in
    let here = c.self.invariant.kept.has_run in
    (here.state.world, here.is_at.stands, sleeper_alive _ here.state _ c.args.task (is_sound here.runs) here.is_at.tasks has c.requires.asleep)

pub returns : goal.returns
returns g c =
    let script = g.T.Turner.script in
    let has = subst (λ core. Has core.tasks c.args.task) (sym c.self.view_is) c.requires.at in
    subst (λ core. (s : CoreState) → IsAt g.T.Turner.stands core s → IsSound (script core.store) s
    → c.ready.result ≡ not (would_block (script core.store) s.world.plain c.args.task.pid)) c.self.view_is
    (λ s at sound. c.ready.ensures s.world at.stands (sleeper_alive _ s _ c.args.task sound at.tasks has c.requires.asleep))
