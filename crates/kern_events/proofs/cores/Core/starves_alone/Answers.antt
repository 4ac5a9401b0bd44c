use Rattle.kern_events.proofs.cores.Core.starves_alone.Goals as goal
use Rattle.kern_tasks.proofs.NextRun.{rising_now}
use Rattle.std.proofs.Common.{sym, subst}
use Rattle.posix_defs.specs.SoundTasks.{AreRising}

pub phase_of-requires : goal.phase_of-requires
phase_of-requires g c = subst (AreRising 0) (sym c.as_slice-2.ensures.value) (rising_now g.T.Turner.stands _ _ c.self.invariant.kept.has_run)
