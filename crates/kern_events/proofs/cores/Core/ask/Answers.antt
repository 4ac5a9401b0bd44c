use Rattle.std.proofs.Common.{sym, subst}
use Rattle.kabi_types.specs.declared.entries.Event.TheVariants.{Ask}
use Rattle.posix_defs.specs.declared.phases.Phase.TheVariants.{User}
use Rattle.kern_laws.proofs.Sounds.{is_sound}
use Rattle.kern_laws.proofs.Tasks.{found_fits}
use Rattle.kern_tasks.specs.View.{MayTake}
use Rattle.kern_events.proofs.cores.Core.ask.Goals as goal

pub asks-asked-requires : goal.asks-asked-requires
asks-asked-requires g c =
    let may = subst (λ core. MayTake g.T.Turner.stands (g.T.Turner.script core.store) core (Ask c.args.pid)) (sym c.self.view_is) c.requires in
    let fits = found_fits _ _ may.state.tasks c.args.pid User (is_sound may.runs).each may.enabled (λ e. (cc)) in
    (may.state.world, may.is_at.stands, fits.phase)
