use Rattle.std.proofs.Common.{refl}
use Rattle.kern_laws.proofs.Sleepers.{sleeps_after}
use Rattle.kern_laws.proofs.histories.sleepers_have_blocked_ever_since.Goals as goal

pub returns-clause-boot : goal.returns-clause-boot
returns-clause-boot c = λ script pid. refl

pub returns-clause-later : goal.returns-clause-later
returns-clause-later c = sleeps_after
